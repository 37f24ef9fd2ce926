-- `searching::cuts::last_table` meets its contract: after the turn of a, the best is that of all a so far.
use Rattle.std.specs.Prelude.{Option, Some}
use mathlib.Core.Path.{◌≡◌, refl, sym, ◌∙◌}
use mathlib.Core.Bool.{true}
use Prim.Native.Nat.{ℕ, ◌+◌, ◌-◌, ◌*◌, ◌≤◌, ◌<◌, min}
use native.Mathlib.Nat.{le_refl, le_trans, le-add_right}
use native.Mathlib.Omega.{arith}
use Rattle.general.specs.Below.{joined, for_each}
use Rattle.design.specs.declared.Design.{Design}
use Rattle.design.specs.Limits.{most_offset_bits, most_table_bits}
use Rattle.design.specs.Cut.{position}
use Rattle.design.specs.Budget.{limit, Admitted}
use Rattle.sizing.specs.Size.{size}
use Rattle.searching.specs.declared.SizedDesign.{SizedDesign}
use Rattle.searching.specs.Designs.{with_pair, continued}
use Rattle.searching.specs.Best.{fewer, better, best_of}
use Rattle.searching.specs.Search.{size_before, budget_before, Open, Fitting}
use Rattle.searching.proofs.BestLaws.{Reached, is-reached, best-first, best-one}
use Rattle.searching.proofs.PrefixLaws.{Agrees}
use Rattle.searching.proofs.TableLaws.{last-a, still-many, last-by-b, last_taken, last-left}
use Rattle.searching.proofs.TableLaws as tables
use Rattle.searching.proofs.cuts.last_table.Invariants.{Inv}
use Rattle.searching.proofs.cuts.last_table.Goals as goal

-- What is left for the last table, in plain numbers: p bits are taken of all, and there is no later table.
all-taken : (p all b m i : ℕ) → i + 1 ≡ m → p + (m - i) ≤ all → all ≤ p + (m - i) * most_offset_bits → b ≡ all - p
    → (p + b ≡ all) × (1 ≤ b) × (b ≤ most_offset_bits)
all-taken p all b m i last low high is = (omega arith, omega arith, omega arith)

none-later : (m i : ℕ) → i + 1 ≡ m → m - (i + 1) ≡ 0
none-later m i last = omega arith

module _ (p b all later : ℕ) (sum : p + b ≡ all) (none : later ≡ 0) where
  leaves : (p + b + later ≤ all) × (all ≤ p + b + later * most_offset_bits)
  leaves = (omega arith, omega arith)

  only : (other : ℕ) → p + other + later ≤ all → all ≤ p + other + later * most_offset_bits → other ≡ b
  only other low high = omega arith

module _ (d : Design) (i : ℕ) (o : Open d i) (last : i + 1 ≡ d.m) (at b : ℕ) (at-is : at ≡ position d i) (b-is : b ≡ d.w - d.alpha - at) where
  here : i < d.m
  here = omega arith

  b-left : b ≡ d.w - d.alpha - position d i
  b-left = b-is ∙ rw at-is

  taken-all : (position d i + b ≡ d.w - d.alpha) × (1 ≤ b) × (b ≤ most_offset_bits)
  taken-all = all-taken (position d i) (d.w - d.alpha) b d.m i last o.left-low o.left-high b-left

  no-later : d.m - (i + 1) ≡ 0
  no-later = none-later d.m i last

  module _ (end : ℕ) (end_is : end ≡ min (d.alpha + 1) (most_table_bits + 1 - b)) where
    fits : (a : ℕ) → 1 ≤ a → a < end → Fitting d i a b
    fits a one below =
        record {
          a-low = one;
          a-high = omega (arith, end_is);
          b-low = taken-all.1;
          b-high = taken-all.2;
          sum-high = omega (arith, end_is);
          left-low = (leaves (position d i) b (d.w - d.alpha) (d.m - (i + 1)) taken-all.0 no-later).0;
          left-high = (leaves (position d i) b (d.w - d.alpha) (d.m - (i + 1)) taken-all.0 no-later).1;
        }

    -- another b leaves bits, and so the b of a design that fits is this one
    b-same : (a other : ℕ) → Fitting d i a other → other ≡ b
    b-same a other fit =
        only (position d i) b (d.w - d.alpha) (d.m - (i + 1)) taken-all.0 no-later other fit.left-low fit.left-high

    -- and a design with a larger a than this one has too many bits in the table
    beyond : (a other : ℕ) → end ≤ a → Fitting d i a other → ⊥
    beyond a other from fit = omega (arith, fit.a-high, fit.sum-high, b-same a other fit, from, end_is)

    module _ (best : Option SizedDesign) where
      begin : Inv best d i end 1
      begin =
          record {
            low = omega arith;
            high = omega (arith, end_is, taken-all.2, o.begun.started.alpha-low);
            so_far = best-first 1 (λ a. for_each 1 most_offset_bits (λ b. continued 0 (with_pair d i a b) (i + 1))) best;
          }

      module _ (a : ℕ) (inv : Inv best d i end a) (below : a < end) where
        -- the best with this a
        turn : (now : Option SizedDesign) → better best (with_pair d i a b) ≡ now
            → best_of best (joined 1 (a + 1 - 1) (λ a. for_each 1 most_offset_bits (λ b. continued 0 (with_pair d i a b) (i + 1)))) ≡ now
        turn now e =
            best-one 1 (λ a. for_each 1 most_offset_bits (λ b. continued 0 (with_pair d i a b) (i + 1))) best best a inv.low inv.so_far
            ∙ last-by-b d i o here best a b last b-left ∙ e

        -- none that fits has fewer bits than the best, from a on
        from-here : (now : Option SizedDesign) (k : ℕ) → a ≤ k → Reached now (size_before (with_pair d i a b) (i + 1))
            → (a' other : ℕ) → k ≤ a' → (e : Design) → Agrees (with_pair d i a' other) e (i + 1) → Admitted e → Reached now (size e)
        from-here now k later many a' other from e same admitted =
            let other-is = b-same a' other (tables.fits d i o here a' other e same admitted) in
            still-many d i o here now a b a' other (le_trans later from) (rw other-is (le_refl b)) many e same admitted

        module _ (bits : ℕ) (bits_are : bits ≡ size_before (with_pair d i a b) (i + 1)) where
          stops : Reached best bits → best ≡ best_of best (continued 1 d i)
          stops many =
              sym (last-a d i o here best best 0 a inv.low (omega (arith, inv.high, end_is))
              (from-here best a (le_refl a) (rw bits_are at many)) inv.so_far)

          module _ (budget most : ℕ) (budget-is : budget ≡ budget_before (with_pair d i a b) (i + 1)) (most-is : most ≡ limit d) where
            taken : (made : Design) → made ≡ with_pair d i a b → fewer bits best ≡ true → budget < most
                → Some (record { design = made; bits = bits }) ≡ best_of best (continued 1 d i)
            unfolding limit with_pair
            taken made made-is less within =
                let now : Option SizedDesign = Some (record { design = with_pair d i a b; bits = size_before (with_pair d i a b) (i + 1) }) in
                let better-is = last_taken d i o here best a b last b-left (fits a inv.low below)
                (rw (← bits_are) less) (rw (budget-is, most-is) at within) in
                rw (made-is, bits_are)
                (sym (last-a d i o here best now 0 (a + 1) (omega arith) (omega (arith, below, end_is))
                (from-here now (a + 1) (le-add_right a 1) (le_refl _)) (turn now better-is)))

            left : most ≤ budget → Inv best d i end (a + 1)
            unfolding limit with_pair
            left large =
                record {
                  low = omega arith;
                  high = omega arith;
                  so_far = turn best (last-left d i o here best a b last b-left (rw (budget-is, most-is) at large));
                }

      done : (a : ℕ) → Inv best d i end a → end ≤ a → best ≡ best_of best (continued 1 d i)
      done a inv ended =
          sym (last-a d i o here best best 0 a inv.low (omega (arith, inv.high, end_is))
          (λ a' other from e same admitted. absurd (beyond a' other (le_trans ended from) (tables.fits d i o here a' other e same admitted)))
          inv.so_far)

pub loop-a-init : goal.loop-a-init
loop-a-init c =
    let p = c.args.prefix.now in
    begin _ _ p.so_far c.requires _ _ p.kept.position_is refl _ c.min-end.ensures _

pub returns-then-not-is_fewer : goal.returns-then-not-is_fewer
returns-then-not-is_fewer c =
    let p = c.args.prefix.now in
    stops _ _ p.so_far c.requires _ _ p.kept.position_is refl _ c.min-end.ensures _ _ c.loop-a.invariant c.loop-a-test.true _
    c.size_with-bits.ensures (is-reached _ _ (sym c.is_fewer.ensures ∙ c.if-not-is_fewer.true))

pub returns-then-budget_with-prefix : goal.returns-then-budget_with-prefix
returns-then-budget_with-prefix c =
    let p = c.args.prefix.now in
    taken _ _ p.so_far c.requires _ _ p.kept.position_is refl _ c.min-end.ensures _ _ c.loop-a.invariant c.loop-a-test.true _
    c.size_with-bits.ensures _ _ c.budget_with.ensures p.kept.limit_is _ c.with_pair-design.ensures
    (sym c.is_fewer.ensures ∙ c.if-not-is_fewer.false) c.if-budget_with-prefix.true

pub loop-a-preserved : goal.loop-a-preserved
loop-a-preserved c =
    let p = c.args.prefix.now in
    left _ _ p.so_far c.requires _ _ p.kept.position_is refl _ c.min-end.ensures _ _ c.loop-a.invariant c.loop-a-test.true _
    c.size_with-bits.ensures _ _ c.budget_with.ensures p.kept.limit_is c.if-budget_with-prefix.false

pub returns : goal.returns
returns c =
    let p = c.args.prefix.now in
    done _ _ p.so_far c.requires _ _ p.kept.position_is refl _ c.min-end.ensures _ _ c.loop-a.invariant c.loop-a-test.false
