-- `design::legal::cut_verdict` meets its contract: each answer rewrites with the tests that led there.
use Rattle.std.specs.Prelude.{Ok}
use mathlib.Core.Path.{◌≡◌}
use mathlib.Core.Bool.{false, not}
use Prim.Native.Nat.{◌-◌, ◌≤◌, ◌<◌}
use native.Mathlib.Omega.{arith}
use borrow.Author.Tests.{lt-leb, le-leb, eq-eqb, ne_eqb}
use lib.Dec.{eqb}
use lib.ListN.{length, take}
use Rattle.std.specs.List.{list_any, sum_by}
use Rattle.general.proofs.Tests.{tested}
use Rattle.refusal.specs.declared.Cause.{Cause}
use Rattle.refusal.specs.Checks.{refuses, verdict, outside}
use Rattle.refusal.proofs.Checks.{inside}
use Rattle.design.specs.declared.Design.{Design}
use Rattle.design.specs.declared.Pair.{Pair}
use Rattle.design.specs.declared.legal.TableRule.{TableRule}
use Rattle.design.specs.Limits.{least_initial_bits, most_initial_bits, most_tables}
use Rattle.design.specs.Cut.{tables}
use Rattle.design.specs.Legal.{breaks, cut_checks}
use Rattle.design.proofs.LegalLaws.{some-breaks, bits-in-all}
use Rattle.design.proofs.legal.cut_verdict.Goals as goal
use Rattle.design.proofs.legal.cut_verdict.Goals.{
  then-outside-via-then-outside,
  then-outside-via-else-outside+then-d,
}

pub returns-then-outside : goal.returns-then-outside
unfolding cut_checks
returns-then-outside c = elim c.then-outside.branch [
  | then-outside-via-then-outside w ↦ rw (tested c.outside.ensures w.if-outside.true)
  | then-outside-via-else-outside+then-d w ↦ rw (tested c.outside.ensures w.if-outside.false, le-leb _ _ w.if-d.true)
]

pub returns-then-outside-2 : goal.returns-then-outside-2
unfolding cut_checks
returns-then-outside-2 c =
    rw (tested c.outside.ensures c.if-outside.false, lt-leb _ _ c.if-d.false, tested c.outside-2.ensures c.if-outside-2.true)

-- the verdict on the tables, by what is found of the list of those that are read, where the tests before passed
module _ (d : Design) (places : most_tables ≤ length d.pairs) (alpha : outside least_initial_bits most_initial_bits d.alpha ≡ false)
    (below : d.alpha < d.w) (count : outside 1 most_tables d.m ≡ false) where
  room : d.m ≤ length d.pairs
  room = omega (arith, places, (inside 1 most_tables d.m count).1)

  judged : verdict (cut_checks d)
      ≡ refuses (list_any (breaks TableRule.SegmentBits d.alpha) (take d.m d.pairs)) Cause.SegmentBits
      (refuses (list_any (breaks TableRule.OffsetBits d.alpha) (take d.m d.pairs)) Cause.OffsetBits
      (refuses (not (eqb (sum_by (λ (pair : Pair). pair.b) (take d.m d.pairs)) (d.w - d.alpha))) Cause.CutSum (Ok tt)))
  unfolding cut_checks tables
  judged =
      rw (
        alpha,
        lt-leb _ _ below,
        count,
        some-breaks d room TableRule.SegmentBits,
        some-breaks d room TableRule.OffsetBits,
        bits-in-all d room,
      )

pub returns-then-some_breaks : goal.returns-then-some_breaks
returns-then-some_breaks c =
    rw (
      judged c.args.d.now (omega arith) (tested c.outside.ensures c.if-outside.false) c.if-d.false
          (tested c.outside-2.ensures c.if-outside-2.false),
      tested c.some_breaks.ensures c.if-some_breaks.true,
    )

pub returns-then-some_breaks-2 : goal.returns-then-some_breaks-2
returns-then-some_breaks-2 c =
    rw (
      judged c.args.d.now (omega arith) (tested c.outside.ensures c.if-outside.false) c.if-d.false
          (tested c.outside-2.ensures c.if-outside-2.false),
      tested c.some_breaks.ensures c.if-some_breaks.false,
      tested c.some_breaks-2.ensures c.if-some_breaks-2.true,
    )

pub returns-then-offset_bits-d : goal.returns-then-offset_bits-d
returns-then-offset_bits-d c =
    rw (
      judged c.args.d.now (omega arith) (tested c.outside.ensures c.if-outside.false) c.if-d.false
          (tested c.outside-2.ensures c.if-outside-2.false),
      tested c.some_breaks.ensures c.if-some_breaks.false,
      tested c.some_breaks-2.ensures c.if-some_breaks-2.false,
      ne_eqb _ _ (rw c.offset_bits.ensures at c.if-offset_bits-d.true),
    )

pub returns : goal.returns
returns c =
    rw (
      judged c.args.d.now (omega arith) (tested c.outside.ensures c.if-outside.false) c.if-d.false
          (tested c.outside-2.ensures c.if-outside-2.false),
      tested c.some_breaks.ensures c.if-some_breaks.false,
      tested c.some_breaks-2.ensures c.if-some_breaks-2.false,
      eq-eqb _ _ (rw c.offset_bits.ensures at c.if-offset_bits-d.false),
    )
