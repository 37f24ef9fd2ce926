-- `design::LegalDesign::offset_total` meets its contract: after n turns `entries` counts the offsets of the first n tables.
use mathlib.Core.Path.{◌≡◌, refl}
use Prim.Native.Nat.{ℕ, ◌+◌, ◌≤◌}
use native.Mathlib.Omega.{arith}
use Rattle.general.specs.Below.{sum_below}
use Rattle.general.proofs.Sums.{sum-next}
use Rattle.design.specs.declared.Design.{Design}
use Rattle.design.specs.Limits.{most_in_table}
use Rattle.design.specs.Stored.{offset_count, table_start, offset_total}
use Rattle.design.proofs.StoredLaws.{count_small}
use Rattle.design.proofs.LegalLaws.{limits}
use Rattle.design.proofs.LegalDesign.offset_total.Goals as goal
use Rattle.design.proofs.LegalDesign.offset_total.Goals.{After-offset_count-entries}

one_more : (d : Design) (i entries more : ℕ) → entries ≡ table_start d i → more ≡ offset_count d i
    → entries + more ≡ table_start d (i + 1)
unfolding table_start
one_more d i entries more e f = rw (e, f, sum-next)

pub loop-i-init : goal.loop-i-init
unfolding sum_below table_start
loop-i-init c = record { count = refl; within = omega arith; small = omega arith }

pub offset_count-entries-requires : goal.offset_count-entries-requires
offset_count-entries-requires c = c.loop-i-test.true

-- this turn's table
few : (c : After-offset_count-entries) → c.offset_count-entries.result ≤ most_in_table
few c = rw c.offset_count-entries.ensures (count_small _ (limits _ c.args.self.legal) _ c.loop-i-test.true)

pub overflow_add-entries : goal.overflow_add-entries
overflow_add-entries c = omega (arith, few c, (limits _ c.args.self.legal).m-high)

pub loop-i-smaller : goal.loop-i-smaller
loop-i-smaller c = omega arith

pub loop-i-preserved : goal.loop-i-preserved
loop-i-preserved c =
    let inv = c.loop-i.invariant in
    record {
      count = one_more _ _ _ _ inv.count c.offset_count-entries.ensures;
      within = omega arith;
      small = omega (arith, few c, inv.small);
    }

pub returns : goal.returns
unfolding offset_total
returns c =
    let e : c.loop-i.i ≡ c.args.self.design.m = omega arith in
    rw e at c.loop-i.invariant.count
