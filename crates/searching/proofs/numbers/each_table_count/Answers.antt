-- `searching::numbers::each_table_count` meets its contract: before the turn of m, the best is that of all m before it.
use Rattle.std.specs.Prelude.{Option}
use mathlib.Core.Path.{◌≡◌, refl, sym, ap, ◌∙◌}
use mathlib.Core.List.{List}
use Prim.Native.Nat.{ℕ, ◌+◌, ◌-◌, ◌*◌, ◌^◌, ◌<◌}
use native.Mathlib.Nat.{le_of_suc-le-suc, not-le_of_lt}
use native.Mathlib.Omega.{arith}
use Rattle.general.specs.Below.{joined}
use Rattle.values.proofs.WidthLaws.{widths-of}
use Rattle.values.specs.declared.slopes.LargestSlopes.{LargestSlopes}
use Rattle.design.specs.declared.Design.{Design}
use Rattle.design.specs.Limits.{most_tables}
use Rattle.design.specs.Budget.{limit}
use Rattle.searching.specs.declared.SizedDesign.{SizedDesign}
use Rattle.searching.specs.Designs.{bare, continued}
use Rattle.searching.specs.Best.{best_of}
use Rattle.searching.specs.Search.{budget_before, Started, SlopesFor, Least, LeastOf, with_tables}
use Rattle.searching.proofs.BestLaws.{best-first, best-one}
use Rattle.searching.proofs.PrefixLaws.{budget-first}
use Rattle.searching.proofs.BeginLaws.{first-open, first-kept, not-shared, turn-skipped, over-limit}
use Rattle.searching.proofs.numbers.each_table_count.Invariants.{Inv}
use Rattle.searching.proofs.numbers.each_table_count.Goals as goal
use Rattle.searching.proofs.numbers.each_table_count.Goals.{
  then-m-left+then-left-m+then-budget-limit,
  else-m-left,
  else-m-left-via-then-m-left+else-left-m,
  else-m-left-via-then-m-left+then-left-m+else-budget-limit,
  else-m-left-via-else-m-left,
}

-- a spread that none of the table is below
least_kept : (d : Design) (slopes : List LargestSlopes) → SlopesFor d slopes → Started d → (least : ℕ) → LeastOf slopes d.alpha least
    → Least d least
least_kept d slopes known u least none_below a one high few =
    let looked-up = ap (λ (largest : LargestSlopes). largest.spread) (known a one few (omega (arith, high, u.alpha-below))) in
    rw (← looked-up) (none_below a one high few)

module _ (d : Design) (u : Started d) (best found : Option SizedDesign) (m : ℕ) (inv : Inv d best found m) (below : m < most_tables + 1) where
  skipped : best_of best (joined 1 (m + 1 - 1) (λ m. continued m (with_tables d m) 0)) ≡ found → Inv d best found (m + 1)
  skipped e = record { low = omega arith; high = omega arith; so_far = e }

  taken : (now : Option SizedDesign) → now ≡ best_of found (continued (m - 0) (with_tables d m) 0) → Inv d best now (m + 1)
  taken now e =
      let all : m - 0 ≡ m = omega arith in
      record {
        low = omega arith;
        high = omega arith;
        so_far = best-one 1 (λ m. continued m (with_tables d m) 0) best found m inv.low inv.so_far ∙ sym (rw all at e);
      }

-- the budget before the first table
within : (d : Design) (m most : ℕ) → (m + 2) * 2 ^ 17 < most → most ≡ limit d → budget_before (with_tables d m) 0 < limit d
unfolding bare
within d m most less is = rw (budget-first (with_tables d m)) (rw is at less)

pub overflow_add-d : goal.overflow_add-d
overflow_add-d c = omega (arith, (widths-of _ _ _ _ c.requires.0.widths).room.s-small)

pub initial_size-bits-requires : goal.initial_size-bits-requires
initial_size-bits-requires c = let u = c.requires.0 in (u.alpha-high, (widths-of _ _ _ _ u.widths).room.s-small)

pub limit-limit-requires : goal.limit-limit-requires
limit-limit-requires c = omega (arith, (widths-of _ _ _ _ c.requires.0.widths).room.s-small)

pub loop-m-init : goal.loop-m-init
loop-m-init c = record { low = omega arith; high = omega arith; so_far = best-first 1 _ _ }

pub invariant_of-first : goal.invariant_of-first
unfolding bare
invariant_of-first c =
    let u = c.requires.0 in
    let m = c.loop-m.m in
    record {
      kept = first-kept _ u m _ _ _ c.initial_size-bits.ensures refl c.limit-limit.ensures;
      so_far = first-open _ u m c.loop-m.invariant.low (le_of_suc-le-suc c.loop-m-test.true) c.if-m-left.true c.if-left-m.true
          (within _ m _ c.if-budget-limit.true c.limit-limit.ensures);
      none_below = least_kept _ _ c.requires.1 u _ c.least_spread-least.ensures;
      known = c.requires.1;
    }

pub loop-m-preserved : goal.loop-m-preserved
unfolding bare
loop-m-preserved c =
    let u = c.requires.0 in
    let found = c.loop-m.found in
    let inv = c.loop-m.invariant in
    let skip = skipped _ u _ _ _ inv c.loop-m-test.true in
    elim c.if-m-left.branch [
      | then-m-left+then-left-m+then-budget-limit w ↦
          rw w.found-is (taken _ u _ _ _ inv c.loop-m-test.true _ w.each_segment_bits-found.ensures)
      | else-m-left w ↦ rw w.found-is (skip (turn-skipped _ u _ _ _ inv.low inv.so_far (elim w.else-m-left.branch [
        | else-m-left-via-then-m-left+else-left-m v ↦ not-shared _ u found _ (λ enough few. not-le_of_lt v.if-left-m.false few)
        | else-m-left-via-then-m-left+then-left-m+else-budget-limit v ↦
            over-limit _ u found _ _ _ refl c.limit-limit.ensures v.if-budget-limit.false
        | else-m-left-via-else-m-left v ↦ not-shared _ u found _ (λ enough few. not-le_of_lt v.if-m-left.false enough)
      ])))
    ]
