-- `evaluating::range::sums_in_range` meets its contract: what it tests is what `sums-stay` asks.
use mathlib.Core.Path.{sym, ap, ◌∙◌}
use Prim.Native.Nat.{ℕ, ◌+◌, ◌*◌}
use native.Mathlib.Omega.{arith}
use borrow.Author.Tests.{not-true}
use lib.Seq.{length-take-le}
use Rattle.design.specs.Stored.{initial_count}
use Rattle.design.proofs.LegalLaws.{limits, sum-limit-small}
use Rattle.evaluating.proofs.RangeLaws.{sums-stay}
use Rattle.evaluating.proofs.range.sums_in_range.Goals as goal

pub overflow_cast-reach-2 : goal.overflow_cast-reach-2
overflow_cast-reach-2 c =
    let l = limits _ c.args.set.tables.legal in
    record { fits = omega (arith, c.if-limit-reach.false, c.sum_limit-limit.ensures, sum-limit-small _ l) }

pub overflow_cast-limit : goal.overflow_cast-limit
overflow_cast-limit c =
    let l = limits _ c.args.set.tables.legal in
    record { fits = omega (arith, c.sum_limit-limit.ensures, sum-limit-small _ l) }

pub pow2-requires : goal.pow2-requires
pow2-requires c = omega (arith, (limits _ c.args.set.tables.legal).alpha-high)

pub slice_bounds-initial-end : goal.slice_bounds-initial-end
unfolding initial_count
slice_bounds-initial-end c = sym (length-take-le _ _ (rw c.pow2.ensures c.args.set.initial_long))

pub returns : goal.returns
unfolding initial_count
returns c e =
    let s = c.args.set in
    let d = s.tables.design in
    let reach-is = ap (λ (n : ℕ). d.m * (n + 1)) (rw c.offset_total.ensures at c.largest_magnitude.ensures) in
    let none = rw c.pow2.ensures at (sym c.some_outside.ensures ∙ not-true _ e) in
    sums-stay d (limits _ s.tables.legal) s.initial.now s.tables.offsets.now s.initial_long s.tables.offsets_long
    (d.m * (c.largest_magnitude.result + 1)) c.sum_limit-limit.result reach-is c.sum_limit-limit.ensures c.if-limit-reach.false none
