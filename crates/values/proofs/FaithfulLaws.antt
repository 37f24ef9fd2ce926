-- Each test of a word says what its definition says; a word is one of faithful, too low and too high; and a nearest word is faithful.
use mathlib.Core.Path.{◌≡◌, refl, sym, ◌∙◌}
use mathlib.Core.Bool.{Bool, true, false, ◌||◌, true≢false, or-true}
use mathlib.Core.Logic.{◌⊎◌, inl, inr, ⊎_elim}
use Prim.Native.Nat.{ℕ, ◌+◌, ◌-◌, ◌≤◌, ◌<◌}
use native.Mathlib.Nat.{le_trans, lt_of_not-le}
use native.Mathlib.Omega.{arith}
use borrow.Author.Tests.{ltb-true, lt-ltb, leb-true, leb-false, le-leb, eqb-true, eqb-false, eq-eqb}
use lib.Dec.{eqb, leb}
use Rattle.general.proofs.Tests.{both, both_so, neither}
use Rattle.values.specs.declared.rows.Row.{Row}
use Rattle.values.specs.Rows.{Lawful}
use Rattle.values.specs.Inputs.{InRange}
use Rattle.values.specs.Exact.{number_side, value_side}
use Rattle.values.specs.Faithful.{Faithful, is_faithful, Nearest, is_nearest, TooLow, is_too_low, TooHigh}
use Rattle.values.proofs.ExactLaws.{number-cancel, at-most-finer, at-least-finer}

le_of_not_lt : {a b : ℕ} → (a < b → ⊥) → b ≤ a
le_of_not_lt n = omega (arith, n)

either : (a b : Bool) → a || b ≡ true → (a ≡ true) ⊎ (b ≡ true)
either true b e = inl refl
either false b e = inr e

module _ (row : Row) (w q X y : ℕ) where
  pub faithful-test : is_faithful row w q X y ≡ true → Faithful row w q X y
  unfolding is_faithful
  faithful-test e =
      let parts = both _ _ e in
      let sides = both _ _ parts.0 in
      record { positive = ltb-true _ _ sides.0; low = ltb-true _ _ sides.1; high = ltb-true _ _ parts.1 }

  pub faithful-tested : Faithful row w q X y → is_faithful row w q X y ≡ true
  unfolding is_faithful
  faithful-tested f = both_so _ _ (both_so _ _ (lt-ltb _ _ f.positive) (lt-ltb _ _ f.low)) (lt-ltb _ _ f.high)

  pub nearest-test : is_nearest row w q X y ≡ true → Nearest row w q X y
  unfolding is_nearest
  nearest-test e =
      let parts = both _ _ e in
      let sides = both _ _ parts.0 in
      record { positive = ltb-true _ _ sides.0; low = leb-true _ _ sides.1; high = leb-true _ _ parts.1 }

  pub nearest-tested : Nearest row w q X y → is_nearest row w q X y ≡ true
  unfolding is_nearest
  nearest-tested n = both_so _ _ (both_so _ _ (lt-ltb _ _ n.positive) (le-leb _ _ n.low)) (le-leb _ _ n.high)

  pub low-test : is_too_low row w q X y ≡ true → TooLow row w q X y
  unfolding is_too_low
  low-test e = ⊎_elim (λ zero. inl (eqb-true _ _ zero)) (λ below. inr (leb-true _ _ below)) (either _ _ e)

  pub low-tested : TooLow row w q X y → is_too_low row w q X y ≡ true
  unfolding is_too_low
  low-tested = ⊎_elim (λ zero. rw (eq-eqb _ _ zero)) (λ below. rw (le-leb _ _ below) (or-true (eqb y 0)))

  -- what is neither faithful nor too low is too high
  pub high-test : is_faithful row w q X y ≡ false → is_too_low row w q X y ≡ false → TooHigh row w q X y
  unfolding is_too_low
  high-test unfaithful not_low =
      let parts = neither (eqb y 0) (leb (number_side row w X (y + 1)) (value_side row w q X)) not_low in
      let positive : 1 ≤ y = omega (arith, eqb-false y 0 parts.0) in
      record {
        positive = positive;
        low = le_of_not_lt (λ low.
            true≢false (sym (faithful-tested (record { positive = positive; low = low; high = leb-false _ _ parts.1 })) ∙ unfaithful));
      }

  -- half a unit is less than one
  pub nearest-faithful : Lawful row → InRange w X → Nearest row w q X y → Faithful row w q X y
  nearest-faithful lawful range n =
      record {
        positive = n.positive;
        low = lt_of_not-le (λ h.
            let more = number-cancel row lawful w X range (le_trans n.low (at-least-finer row w X q 1 (y - 1) h)) in
            omega (arith, n.positive));
        high = lt_of_not-le (λ h.
            let more = number-cancel row lawful w X range (le_trans (at-most-finer row w X q 1 (y + 1) h) n.high) in
            omega arith);
      }
