-- Designs by their number of tables, of which none is chosen yet.
use Rattle.std.specs.Prelude.{Option}
use mathlib.Core.Path.{◌≡◌, refl, ◌∙◌}
use mathlib.Core.List.{List}
use Prim.Native.Nat.{ℕ, ◌+◌, ◌-◌, ◌*◌, ◌^◌, ◌≤◌, ◌<◌}
use native.Mathlib.Nat.{le_refl, not-suc-le-zero}
use native.Mathlib.Omega.{arith}
use Rattle.general.specs.Below.{joined, for_each}
use Rattle.general.specs.Lists.{All}
use Rattle.general.proofs.JoinedLaws.{all-joined}
use Rattle.values.specs.Widths.{limits_of}
use Rattle.design.specs.declared.Design.{Design}
use Rattle.design.specs.Limits.{least_initial_bits, most_initial_bits, most_tables, most_offset_bits}
use Rattle.design.specs.Cut.{fraction_bits}
use Rattle.design.specs.Budget.{limit}
use Rattle.design.proofs.LegalLaws.{Limits, limits}
use Rattle.searching.specs.declared.SizedDesign.{SizedDesign}
use Rattle.searching.specs.Designs.{bare, continued}
use Rattle.searching.specs.Best.{best_of}
use Rattle.searching.specs.Search.{budget_before, Kept, Begun, Open, Started, with_tables}
use Rattle.searching.proofs.BestLaws.{NotBetter, best_none, best-one}
use Rattle.searching.proofs.PrefixLaws.{Agrees, position_first, size-first, budget-first}
use Rattle.searching.proofs.AdmittedLaws.{bits-between, none-better, none-legal, too_large}

module _ (d : Design) (u : Started d) where
  abbrev of : ℕ → List Design
  of m = continued m (with_tables d m) 0

  begun : (m : ℕ) → 1 ≤ m → m ≤ most_tables → Begun (with_tables d m)
  unfolding bare
  begun m low high =
      record {
        started = record { widths = u.widths; alpha-low = u.alpha-low; alpha-high = u.alpha-high; alpha-below = u.alpha-below };
        m-low = low;
        m-high = high;
        places = refl;
      }

  -- Tables that can share the bits that are left, within the limit
  pub first-open : (m : ℕ) → 1 ≤ m → m ≤ most_tables → m ≤ d.w - d.alpha → d.w - d.alpha ≤ m * most_offset_bits
      → budget_before (with_tables d m) 0 < limit d → Open (with_tables d m) 0
  unfolding bare limit
  first-open m low high enough few within =
      record {
        begun = begun m low high;
        chosen = omega arith;
        tables = λ rule j none. absurd (not-suc-le-zero none);
        left-low = rw (position_first (with_tables d m)) (omega arith);
        left-high = rw (position_first (with_tables d m)) (omega arith);
        within = within;
      }

  pub first-kept : (m bits budget most : ℕ) → bits ≡ 2 ^ d.alpha * (fraction_bits d + 2) → budget ≡ (m + 2) * 2 ^ 17 → most ≡ limit d
      → Kept (with_tables d m) 0 0 bits budget most
  unfolding bare limit
  first-kept m bits budget most bits_are budget-is most-is =
      let e = with_tables d m in
      record {
        position_is = rw (position_first e);
        bits_are = bits_are ∙ rw (size-first e);
        budget-is = budget-is ∙ rw (budget-first e);
        limit_is = most-is;
      }

  -- A legal design's tables can share them.
  shared : (m : ℕ) (e : Design) → Agrees (with_tables d m) e 0 → Limits e → (m ≤ d.w - d.alpha) × (d.w - d.alpha ≤ m * most_offset_bits)
  unfolding bare
  shared m e same l =
      let all : 0 + e.m ≡ e.m = omega arith in
      let between = rw (all, position_first e, l.cut) at (bits-between e l 0 e.m (rw all (le_refl e.m))) in
      (omega (arith, between.0, same.m, same.w, same.alpha), omega (arith, between.1, same.m, same.w, same.alpha))

  pub not-shared : (now : Option SizedDesign) (m : ℕ) → ((m ≤ d.w - d.alpha) → (d.w - d.alpha ≤ m * most_offset_bits) → ⊥)
      → All (NotBetter now) (of m)
  not-shared now m not =
      none-better now m (with_tables d m) 0
      (λ e same admitted. let s = shared m e same (limits e admitted.legal) in absurd (not s.0 s.1))

  -- The loop over m, before the turn of m
  pub turn-skipped : (best found : Option SizedDesign) (m : ℕ) → 1 ≤ m → best_of best (joined 1 (m - 1) of) ≡ found → All (NotBetter found) (of m)
      → best_of best (joined 1 (m + 1 - 1) of) ≡ found
  turn-skipped best found m low e none = best-one 1 of best found m low e ∙ best_none found (of m) none

  pub over-limit : (now : Option SizedDesign) (m budget most : ℕ) → budget ≡ (m + 2) * 2 ^ 17 → most ≡ limit d → most ≤ budget
      → All (NotBetter now) (of m)
  unfolding bare limit
  over-limit now m budget most is most-is over =
      too_large now m (with_tables d m) 0 (omega arith) (rw (budget-first (with_tables d m)) (rw (is, most-is) at over))

-- Designs by alpha, and by g: those that no legal design has
module _ (kind w q g : ℕ) where
  abbrev pub by-alpha : ℕ → List Design
  by-alpha alpha = for_each 1 most_tables (λ m. continued m (bare kind w q g alpha m) 0)

  no-tables : (now : Option SizedDesign) (alpha : ℕ) → ((m : ℕ) (e : Design) → Agrees (bare kind w q g alpha m) e 0 → Limits e → ⊥)
      → All (NotBetter now) (by-alpha alpha)
  no-tables now alpha none =
      all-joined (NotBetter now) 1 (λ m. continued m (bare kind w q g alpha m) 0) most_tables
      (λ j below. none-legal now (1 + j) (bare kind w q g alpha (1 + j)) 0 (none (1 + j)))

  pub no-alpha : (now : Option SizedDesign) (alpha : ℕ) → w ≤ alpha → All (NotBetter now) (by-alpha alpha)
  unfolding bare
  no-alpha now alpha wide = no-tables now alpha (λ m e same l. omega (arith, l.alpha-below, same.alpha, same.w, wide))

  pub no-guard : (now : Option SizedDesign) → (limits_of kind).sum < q + g → All (NotBetter now) (for_each least_initial_bits most_initial_bits by-alpha)
  unfolding bare
  no-guard now over =
      all-joined (NotBetter now) least_initial_bits by-alpha (most_initial_bits + 1 - least_initial_bits)
      (λ j below. no-tables now (least_initial_bits + j)
      (λ m e same l. omega (arith, rw (← same.kind, ← same.q, ← same.g) at l.widths.within.sum-high, over)))
