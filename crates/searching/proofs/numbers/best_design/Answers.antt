-- `searching::numbers::best_design` meets its contract: before the turn of g, the best is that of all g before it.
use Rattle.std.specs.Prelude.{Option, None, Ok}
use mathlib.Core.Path.{◌≡◌, sym, ◌∙◌}
use Prim.Native.Nat.{ℕ, ◌+◌, ◌≤◌, ◌<◌}
use native.Mathlib.Nat.{le_of_suc-le-suc}
use native.Mathlib.Numerals.{add-one}
use native.Mathlib.Omega.{arith}
use Rattle.refusal.specs.Checks.{verdict}
use Rattle.values.specs.declared.widths.Limits.{Limits}
use Rattle.values.specs.Widths.{limits_of, function_checks}
use Rattle.values.proofs.WidthLaws.{guard-passes, function-within}
use Rattle.searching.specs.declared.SizedDesign.{SizedDesign}
use Rattle.searching.specs.Designs.{designs}
use Rattle.searching.specs.Best.{best_of, smallest_of}
use Rattle.searching.proofs.BestLaws.{best_none, best-first, best-one}
use Rattle.searching.proofs.BeginLaws.{no-guard}
use Rattle.searching.proofs.numbers.best_design.Invariants.{by-g, Inv}
use Rattle.searching.proofs.numbers.best_design.Goals as goal
use Rattle.searching.proofs.numbers.best_design.Goals.{else-q-g, then-q-g}

module _ (kind w q : ℕ) where
  begin : Inv kind w q None (limits_of kind).g.0
  unfolding limits_of
  begin = record { low = omega arith; high = omega arith; so_far = best-first (limits_of kind).g.0 (by-g kind w q) None }

  module _ (found : Option SizedDesign) (g : ℕ) (inv : Inv kind w q found g) (below : g < (limits_of kind).g.1 + 1) where
    turn : (now : Option SizedDesign) → now ≡ best_of found (by-g kind w q g) → Inv kind w q now (g + 1)
    turn now e =
        record {
          low = omega (arith, inv.low);
          high = omega (arith, below);
          so_far = best-one (limits_of kind).g.0 (by-g kind w q) None found g inv.low inv.so_far ∙ sym e;
        }

    skipped : (limits_of kind).sum < q + g → Inv kind w q found (g + 1)
    skipped over = turn found (sym (best_none found (by-g kind w q g) (no-guard kind w q g found over)))

  done : (found : Option SizedDesign) (g : ℕ) → Inv kind w q found g → (limits_of kind).g.1 + 1 ≤ g → found ≡ smallest_of kind w q
  unfolding smallest_of designs
  done found g inv ended =
      let all : g ≡ (limits_of kind).g.1 + 1 = omega (arith, inv.high, ended) in
      sym (rw all at inv.so_far)

-- the limits of the kind, which the code has as a call's result
module _ (kind : ℕ) (limits : Limits) (is : limits ≡ limits_of kind) where
  below_end : (g : ℕ) → g < limits.g.1 + 1 → g < (limits_of kind).g.1 + 1
  below_end g h = rw is at h

  at-end : (g : ℕ) → limits.g.1 + 1 ≤ g → (limits_of kind).g.1 + 1 ≤ g
  at-end g h = rw is at h

  over : (n : ℕ) → limits.sum < n → (limits_of kind).sum < n
  over n h = rw is at h

  begins : (w q : ℕ) (found : Option SizedDesign) → Inv kind w q found (limits_of kind).g.0 → Inv kind w q found limits.g.0
  begins w q found inv = rw is inv

  few-guards : limits.g.1 + 1 ≤ 7
  unfolding limits_of
  few-guards = rw is (omega arith)

-- kind, w and q that pass
few_bits : (kind w q : ℕ) → verdict (function_checks (limits_of kind) kind w q) ≡ (Ok tt) → q ≤ 16
unfolding limits_of
few_bits kind w q passed = (function-within (limits_of kind) kind w q passed).1

pub returns : goal.returns
returns c = done _ _ _ _ _ c.loop-g.invariant (at-end _ _ c.limits_of-limits.ensures _ c.loop-g-test.false)

pub loop-g-preserved : goal.loop-g-preserved
loop-g-preserved c =
    let limits-is = c.limits_of-limits.ensures in
    let inv = c.loop-g.invariant in
    let below = below_end _ _ limits-is _ c.loop-g-test.true in
    elim c.if-q-g.branch [
      | then-q-g v ↦ rw v.found-is (turn _ _ _ _ _ inv below _ v.each_initial_bits-found.ensures)
      | else-q-g v ↦ rw v.found-is (skipped _ _ _ _ _ inv below (over _ _ limits-is _ v.if-q-g.false))
    ]

pub overflow_add-g-end : goal.overflow_add-g-end
overflow_add-g-end c = omega (arith, few-guards _ _ c.limits_of-limits.ensures)

pub loop-g-init : goal.loop-g-init
loop-g-init c = begins _ _ c.limits_of-limits.ensures _ _ _ (begin _ _ _)

pub overflow_add-q : goal.overflow_add-q
overflow_add-q c =
    let a = c.args in
    omega (arith, c.loop-g-test.true, few-guards _ _ c.limits_of-limits.ensures, few_bits a.kind a.w a.q c.requires)

pub each_initial_bits-found-requires : goal.each_initial_bits-found-requires
each_initial_bits-found-requires c =
    guard-passes _ _ _ _ _ c.requires c.loop-g.invariant.low
    (le_of_suc-le-suc (rw add-one at (below_end _ _ c.limits_of-limits.ensures _ c.loop-g-test.true)))
    (rw c.limits_of-limits.ensures at c.if-q-g.true)
