-- `frames::digit` meets its contract: the numbers are those of the characters from '0' to 'F', which is computed over all of them once.
use mathlib.Core.Path.{◌≡◌, refl, sym, ◌∙◌}
use mathlib.Core.Bool.{Bool, true, false, not}
use Prim.Native.Nat.{ℕ, ◌+◌, ◌-◌, ◌<◌}
use native.Mathlib.Omega.{arith}
use native.Mathlib.Decide.{dec_lt}
use borrow.Author.Tests.{eqb-true, not-false, ltb-true, lt-ltb, le-ltb}
use lib.Dec.{eqb}
use lib.ListN.{get_or}
use Rattle.general.specs.Below.{some_below}
use Rattle.general.proofs.Sums.{none_below}
use Rattle.refusal.specs.Checks.{outside}
use Rattle.refusal.proofs.Checks.{inside}
use Rattle.frames.specs.Hex.{digit_value}
use Rattle.frames.specs.Inputs.{digit_numbers}
use Rattle.frames.proofs.digit.Goals as goal

-- Whether a number is not the one that its character stands for
abbrev differs : ℕ → Bool
differs k = not (eqb (get_or digit_numbers k 0) (digit_value (48 + k)))

none-differs : some_below 23 differs ≡ false
unfolding some_below digit_value
none-differs = refl

module _ (c : ℕ) where
  within : outside 48 70 c ≡ false → get_or digit_numbers (c - 48) 0 ≡ digit_value c
  within e =
      let range = inside 48 70 c e in
      let back : 48 + (c - 48) ≡ c = omega arith in
      let same = not-false (eqb (get_or digit_numbers (c - 48) 0) (digit_value (48 + (c - 48))))
      (none_below 23 differs none-differs (c - 48) (omega arith)) in
      rw back at (eqb-true (get_or digit_numbers (c - 48) 0) (digit_value (48 + (c - 48))) same)

  beyond : outside 48 70 c ≡ true → 16 ≡ digit_value c
  unfolding digit_value
  beyond e =
      elim (dec_lt c 48) [
        | yes low ↦ rw (lt-ltb c 48 low, lt-ltb c 65 (omega arith))
        | no high ↦
            let past : 70 < c = ltb-true 70 c (rw (le-ltb c 48 (omega arith)) at e) in
            rw (le-ltb c 48 (omega arith), lt-ltb 57 c (omega arith), le-ltb c 65 (omega arith), lt-ltb 70 c past)
      ]

pub returns-then-outside : goal.returns-then-outside
returns-then-outside c = beyond _ (sym c.outside.ensures ∙ c.if-outside.true)

pub returns : goal.returns
returns c = rw c.requires (within _ (sym c.outside.ensures ∙ c.if-outside.false))
