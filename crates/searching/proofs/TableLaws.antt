-- One table more: the best by its b, and which b count at all; and the best with the last table.
use Rattle.std.specs.Prelude.{Option, Some}
use mathlib.Core.Path.{◌≡◌, refl, ◌∙◌}
use mathlib.Core.Bool.{true}
use mathlib.Core.List.{List}
use Prim.Native.Nat.{ℕ, suc, ◌+◌, ◌-◌, ◌≤◌, ◌<◌}
use native.Mathlib.Nat.{add-le-add, le_refl, le_trans}
use native.Mathlib.Omega.{arith}
use Rattle.general.specs.Below.{joined, for_each}
use Rattle.general.specs.Lists.{All}
use Rattle.general.proofs.JoinedLaws.{all-joined}
use Rattle.values.specs.Inputs.{SlopeInput}
use Rattle.values.specs.Slopes.{largest_sum}
use Rattle.design.specs.declared.Design.{Design}
use Rattle.design.specs.Limits.{most_offset_bits}
use Rattle.design.specs.Cut.{row, fraction_bits, position}
use Rattle.design.specs.Budget.{budget, limit, Admitted}
use Rattle.design.proofs.LegalLaws.{limits, legal-of}
use Rattle.sizing.specs.Size.{size}
use Rattle.sizing.proofs.GrowthLaws.{size_by, grows}
use Rattle.searching.specs.declared.SizedDesign.{SizedDesign}
use Rattle.searching.specs.Designs.{with_pair, continued}
use Rattle.searching.specs.Best.{fewer, better, best_of}
use Rattle.searching.specs.Search.{size_before, budget_before, Open, Fitting}
use Rattle.searching.proofs.BestLaws.{Reached, reached-more, NotBetter, better-not, better-so, best-first, best-one, best-rest}
use Rattle.searching.proofs.AdmittedLaws.{so-admitted, no-fewer, none-better, too_large}
use Rattle.searching.proofs.PrefixLaws.{Agrees, size-whole}
use Rattle.searching.proofs.OpenLaws.{open-limits, open_next, fitting, size-next}
use Rattle.searching.proofs.SmallLaws.{widths}

-- With all tables, the budget so far is the design's.
pub budget-whole : (d : Design) → budget_before d d.m ≡ budget d
unfolding budget_before budget
budget-whole d = refl

module _ (d : Design) (i : ℕ) (o : Open d i) (h : i < d.m) where
  -- what becomes of d by b, with n tables more, and by a
  abbrev pub by-b : ℕ → ℕ → ℕ → List Design
  by-b n a b = continued n (with_pair d i a b) (i + 1)

  abbrev pub by-a : ℕ → ℕ → List Design
  by-a n a = for_each 1 most_offset_bits (by-b n a)

  -- A legal design's pair fits, so no other pair counts.
  pub fits : (a b : ℕ) (e : Design) → Agrees (with_pair d i a b) e (i + 1) → Admitted e → Fitting d i a b
  fits a b e same admitted = fitting d i a b h o.begun.places o.begun.m-high e same (limits e admitted.legal)

  pub unfit : (now : Option SizedDesign) (n a b : ℕ) → (Fitting d i a b → ⊥) → All (NotBetter now) (by-b n a b)
  unfit now n a b not = none-better now n (with_pair d i a b) (i + 1) (λ e same admitted. absurd (not (fits a b e same admitted)))

  -- The size grows with a and b, as far as pairs fit.
  size-grows : (a b a' b' : ℕ) → a ≤ a' → b ≤ b' → Fitting d i a' b' → size_before (with_pair d i a b) (i + 1) ≤ size_before (with_pair d i a' b') (i + 1)
  size-grows a b a' b' a-more b-more fit =
      let within : a' ≤ d.w = omega (arith, fit.a-high, o.begun.started.alpha-below) in
      let w = widths d o.begun in
      let slopes : SlopeInput (row d) d.w (fraction_bits d) a
      = record { lawful = w.lawful; room = w.room; a_small = le_trans a-more within } in
      rw (size_of a b, size_of a' b')
      (add-le-add (le_refl (size_before d i)) (grows (row d) d.w (fraction_bits d) a b a' b' (position d i) slopes a-more within b-more)) where
        size_of : (a b : ℕ) → size_before (with_pair d i a b) (i + 1)
            ≡ size_before d i + size_by (largest_sum (row d) d.w (fraction_bits d) a) a b (position d i)
        size_of a b = size-next d i a b h o.begun.places o.begun.m-high

  -- The best by b, over those below k: those before the first one do not count, and what is left then.
  module _ (best : Option SizedDesign) (n a : ℕ) where
    pub first-b : (k : ℕ) → 1 ≤ k → ((b : ℕ) → b < k → Fitting d i a b → ⊥) → best_of best (joined 1 (k - 1) (by-b n a)) ≡ best
    first-b k one not =
        best-rest 1 (by-b n a) best best 1 k (le_refl 1) one (best-first 1 (by-b n a) best)
        (λ b from to. unfit best n a b (not b to))

    pub last-b : (now : Option SizedDesign) (k : ℕ) → 1 ≤ k → k ≤ most_offset_bits + 1
        → ((b : ℕ) → k ≤ b → (e : Design) → Agrees (with_pair d i a b) e (i + 1) → Admitted e → Reached now (size e))
        → best_of best (joined 1 (k - 1) (by-b n a)) ≡ now → best_of best (by-a n a) ≡ now
    last-b now k one high none e =
        best-rest 1 (by-b n a) best now k (most_offset_bits + 1) one high e
        (λ b from to. none-better now n (with_pair d i a b) (i + 1) (none b from))

  -- The same by a
  pub last-a : (best now : Option SizedDesign) (n k : ℕ) → 1 ≤ k → k ≤ d.alpha + 1
      → ((a b : ℕ) → k ≤ a → (e : Design) → Agrees (with_pair d i a b) e (i + 1) → Admitted e → Reached now (size e))
      → best_of best (joined 1 (k - 1) (by-a n)) ≡ now → best_of best (continued (suc n) d i) ≡ now
  unfolding continued
  last-a best now n k one high none e =
      best-rest 1 (by-a n) best now k (d.alpha + 1) one high e
      (λ a from to. all-joined (NotBetter now) 1 (by-b n a) most_offset_bits
      (λ j below. none-better now n (with_pair d i a (1 + j)) (i + 1) (none a (1 + j) from)))

  -- What has no fewer bits than the best with a and b has none with larger ones.
  pub still-many : (now : Option SizedDesign) (a b a' b' : ℕ) → a ≤ a' → b ≤ b' → Reached now (size_before (with_pair d i a b) (i + 1))
      → (e : Design) → Agrees (with_pair d i a' b') e (i + 1) → Admitted e → Reached now (size e)
  unfolding with_pair
  still-many now a b a' b' a-more b-more many e same admitted =
      reached-more now _ _ many
      (le_trans (size-grows a b a' b' a-more b-more (fits a' b' e same admitted)) (no-fewer (with_pair d i a' b') e (i + 1) same (omega arith)))

  -- The last table's b is all that is left.
  module _ (now : Option SizedDesign) (a b : ℕ) (last : i + 1 ≡ d.m) (b-is : b ≡ d.w - d.alpha - position d i) where
    left : (1 ≤ b) × (b ≤ most_offset_bits)
    left = (omega (arith, o.left-low), omega (arith, o.left-high))

    pub last-by-b : best_of now (by-a 0 a) ≡ better now (with_pair d i a b)
    unfolding continued best_of
    last-by-b =
        last-b now 0 a (better now (with_pair d i a b)) (b + 1) (omega arith) (omega (arith, left))
        (λ other above e same admitted. absurd (too_far other above (fits a other e same admitted)))
        (best-one 1 (by-b 0 a) now now b left.0
        (first-b now 0 a b left.0 (λ other below fit. omega (arith, fit.left-high, o.left-low)))) where
          too_far : (other : ℕ) → b + 1 ≤ other → Fitting d i a other → ⊥
          too_far other above fit = omega (arith, fit.left-low, o.left-high)

    -- It is taken, or not.
    pub last_taken : Fitting d i a b → fewer (size_before (with_pair d i a b) (i + 1)) now ≡ true
        → budget_before (with_pair d i a b) (i + 1) < limit (with_pair d i a b)
        → better now (with_pair d i a b) ≡ Some (record { design = with_pair d i a b; bits = size_before (with_pair d i a b) (i + 1) })
    unfolding with_pair
    last_taken fit fewer within =
        let e = with_pair d i a b in
        let whole : Open e d.m = rw last at (open_next d i a b h o.begun.places o.begun.m-high o fit within) in
        let size_is : size_before e (i + 1) ≡ size e = rw last (size-whole e) in
        let budget-is : budget_before e (i + 1) ≡ budget e = rw last (budget-whole e) in
        let admitted : Admitted e = record { legal = legal-of e (open-limits e whole); within = rw budget-is at within } in
        better-so now e (so-admitted e admitted) (rw size_is at fewer) ∙ rw size_is

    pub last-left : limit (with_pair d i a b) ≤ budget_before (with_pair d i a b) (i + 1) → better now (with_pair d i a b) ≡ now
    unfolding with_pair continued
    last-left large = better-not now (with_pair d i a b) (too_large now 0 (with_pair d i a b) (i + 1) (omega arith) large).0
