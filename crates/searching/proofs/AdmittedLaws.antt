-- What is not better than the best, though it is admitted: designs whose size or budget is too large already, and none where none is legal.
use Rattle.std.specs.Prelude.{Option}
use mathlib.Core.Path.{◌≡◌, sym}
use mathlib.Core.Bool.{true, false, true≢false}
use Prim.Native.Nat.{ℕ, zero, suc, ◌+◌, ◌*◌, ◌≤◌}
use native.Mathlib.Nat.{add-suc, add-zero}
use native.Mathlib.Omega.{arith}
use borrow.Author.Tests.{ltb-true, lt-ltb}
use Rattle.general.specs.Lists.{All}
use Rattle.general.proofs.Tests.{both}
use Rattle.general.proofs.JoinedLaws.{all_weaker}
use Rattle.refusal.specs.Checks.{passes}
use Rattle.refusal.proofs.Answers.{only-passed}
use Rattle.design.specs.declared.Design.{Design}
use Rattle.design.specs.Limits.{most_offset_bits}
use Rattle.design.specs.Cut.{position}
use Rattle.design.specs.Legal.{design_verdict}
use Rattle.design.specs.Budget.{budget, limit, within_limit, Admitted}
use Rattle.design.proofs.LegalLaws.{Limits, limits}
use Rattle.general.specs.Below.{sum_below}
use Rattle.sizing.specs.Size.{size}
use Rattle.searching.specs.declared.SizedDesign.{SizedDesign}
use Rattle.searching.specs.Designs.{continued}
use Rattle.searching.specs.Best.{is_admitted}
use Rattle.searching.specs.Search.{size_before, budget_before}
use Rattle.searching.proofs.BestLaws.{Reached, reached-more, NotBetter}
use Rattle.searching.proofs.PrefixLaws.{
  Agrees,
  continued-agrees,
  size-before-same,
  budget-before-same,
  limit-same,
  size-before-mono,
  budget-before-mono,
}

-- The test, both ways
pub admitted-so : (d : Design) → is_admitted d ≡ true → Admitted d
unfolding is_admitted within_limit
admitted-so d e =
    let parts = both (passes (design_verdict d)) _ e in
    record {
      legal = only-passed (λ b. b ≡ true) (design_verdict d) true (λ cause. false) (λ cause h. absurd (true≢false (sym h))) parts.0;
      within = ltb-true (budget d) (limit d) parts.1;
    }

pub so-admitted : (d : Design) → Admitted d → is_admitted d ≡ true
unfolding is_admitted within_limit
so-admitted d a = rw (a.legal, lt-ltb (budget d) (limit d) a.within)

-- A design has no fewer bits than its first i tables.
pub no-fewer : (d e : Design) (i : ℕ) → Agrees d e i → i ≤ d.m → size_before d i ≤ size e
no-fewer d e i same h = rw (size-before-same d e i same) (size-before-mono e i (rw (← same.m) h))

-- Designs that begin with the same i tables, none of which is better
module _ (best : Option SizedDesign) (n : ℕ) (d : Design) (i : ℕ) where
  pub none-better : ((e : Design) → Agrees d e i → Admitted e → Reached best (size e)) → All (NotBetter best) (continued n d i)
  none-better none =
      all_weaker (λ e same admitted. none e same (admitted-so e admitted)) (continued n d i) (continued-agrees n d i)

  -- for they have too many bits already,
  pub too_many : i ≤ d.m → Reached best (size_before d i) → All (NotBetter best) (continued n d i)
  too_many h many = none-better (λ e same admitted. reached-more best _ _ many (no-fewer d e i same h))

  -- or too large a budget,
  pub too_large : i ≤ d.m → limit d ≤ budget_before d i → All (NotBetter best) (continued n d i)
  too_large h large =
      none-better
      (λ e same admitted. absurd
      (omega (
        arith,
        admitted.within,
        budget-before-same d e i same,
        budget-before-mono e i (rw (← same.m) h),
        limit-same d e i same,
      )))

  -- or no legal one has these tables.
  pub none-legal : ((e : Design) → Agrees d e i → Limits e → ⊥) → All (NotBetter best) (continued n d i)
  none-legal none = none-better (λ e same admitted. absurd (none e same (limits e admitted.legal)))

-- Each further table takes at least one bit of x, and at most so many.
pub bits-between : (d : Design) → Limits d → (i k : ℕ) → i + k ≤ d.m
    → (position d i + k ≤ position d (i + k)) × (position d (i + k) ≤ position d i + k * most_offset_bits)
unfolding position sum_below
bits-between d l i zero h = rw (add-zero i) (omega arith, omega arith)
bits-between d l i (suc k) h =
    let before = bits-between d l i k (omega arith) in
    let table = l.table (i + k) (omega arith) in
    rw (add-suc i k) (omega (arith, before, table.b-low), omega (arith, before, table.b-high))
