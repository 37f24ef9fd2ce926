-- A line with one more character at its end: what that makes of its digits, of its number, and of what is kept of it.
use Rattle.std.specs.Prelude.{Option, Some, None, option_and_then, SomeIff}
use mathlib.Core.Path.{◌≡◌, refl, sym, ap}
use mathlib.Core.Bool.{Bool, true, false, cond, not, ◌&&◌, and-true, and_assoc}
use mathlib.Core.List.{List, [], ◌∷◌, ◌++◌}
use Prim.Native.Nat.{ℕ, ◌+◌, ◌-◌, ◌*◌, ◌^◌, ◌≤◌, ◌<◌}
use native.Mathlib.Nat.{pow-suc, lt_of_not-le}
use native.Mathlib.Numerals.{add-one}
use native.Mathlib.Decide.{dec_le}
use native.Mathlib.Omega.{arith}
use borrow.Author.Tests.{lt-ltb, le-ltb, ne_eqb}
use lib.Dec.{ltb, eqb}
use lib.ListN.{length, length-append}
use Rattle.refusal.specs.Checks.{outside}
use Rattle.word_text.specs.Decimal.{all_decimal, is_decimal, decimal_number, word_in, if_word, reading_of, longer, after_character, word_of}

-- A number of a digit d in front of n, one place further up
one-place-up : (d p n c : ℕ) → d * (p * 10) + (10 * n + c) ≡ 10 * (d * p + n) + c
one-place-up d p n c = omega arith

module _ (c : ℕ) where
  number-next : (t : List ℕ) → decimal_number (t ++ c ∷ []) ≡ 10 * decimal_number t + (c - 48)
  unfolding decimal_number
  number-next [] = omega arith
  number-next (d ∷ t) =
      rw (length-append t (c ∷ []), number-next t, add-one (length t), pow-suc 10 (length t)) (one-place-up (d - 48) _ _ _)

  digits-next : (t : List ℕ) → all_decimal (t ++ c ∷ []) ≡ all_decimal t && not (outside 48 57 c)
  unfolding all_decimal
  digits-next [] = and-true (not (outside 48 57 c))
  digits-next (d ∷ t) = rw (digits-next t) (sym (and_assoc (not (outside 48 57 d)) (all_decimal t) (not (outside 48 57 c))))

pub below-limit : (n : ℕ) → n < 2 ^ 32 → if_word n ≡ Some n
unfolding if_word
below-limit n h = rw (lt-ltb n (2 ^ 32) h)

pub from-limit : (n : ℕ) → 2 ^ 32 ≤ n → if_word n ≡ None
unfolding if_word
from-limit n h = rw (le-ltb n (2 ^ 32) h)

-- What is kept of digits alone, or not, that stand for n
abbrev kept : Bool → ℕ → Option ℕ
kept digits n = cond digits (if_word n) None

-- One character more, with a digit's value d: no number stays none, and one of 2^32 or more is none with every character behind it.
module _ (n d : ℕ) where
  abbrev grown : Bool → Option ℕ → Option ℕ
  grown other number = cond other None (option_and_then (λ n. if_word (10 * n + d)) number)

  by-other : (other : Bool) (next : Option ℕ) → next ≡ if_word (10 * n + d) → cond other None next ≡ kept (not other) (10 * n + d)
  by-other true next e = refl
  by-other false next e = e

  never : (other : Bool) → grown other None ≡ kept false (10 * n + d)
  never true = refl
  never false = refl

  kept-next : (digits other : Bool) → grown other (kept digits n) ≡ kept (digits && not other) (10 * n + d)
  kept-next false other = never other
  kept-next true other = elim (dec_le (2 ^ 32) n) [
    | yes from ↦ rw (from-limit n from) (by-other other None (sym (from-limit (10 * n + d) (omega arith))))
    | no below ↦ rw (below-limit n (lt_of_not-le below)) (by-other other _ refl)
  ]

module _ (t : List ℕ) (c : ℕ) where
  -- What is kept of a line and one character more is what is kept of the longer line.
  pub reading-goes-on : after_character (reading_of t) c ≡ reading_of (t ++ c ∷ [])
  unfolding after_character longer reading_of
  reading-goes-on =
      rw (digits-next c t, number-next c t, length-append t (c ∷ []), ne_eqb (length t + 1) 0 (λ none. omega arith))
      (ap (λ (number : Option ℕ). record { number = number; begun = true })
      (kept-next (decimal_number t) (c - 48) (all_decimal t) (outside 48 57 c)))

-- A number and one character more, by the character
module _ (number : Option ℕ) (c : ℕ) where
  pub below-digits : c < 48 → None ≡ longer number c
  unfolding longer
  below-digits h = rw (lt-ltb c 48 h)

  pub above-digits : 57 < c → None ≡ longer number c
  unfolding longer
  above-digits h = rw (le-ltb c 48 (omega arith), lt-ltb 57 c h)

  module _ (low : 48 ≤ c) (high : c ≤ 57) where
    by-number : longer number c ≡ option_and_then (λ n. if_word (10 * n + (c - 48))) number
    unfolding longer
    by-number = rw (le-ltb c 48 low, le-ltb 57 c high)

    pub no-number : number ≡ None → None ≡ longer number c
    no-number e = rw (by-number, e)

    pub one-digit-more : (n : ℕ) → number ≡ Some n → if_word (10 * n + (c - 48)) ≡ longer number c
    one-digit-more n e = rw (by-number, e)

-- A checked sum is a word where it has 32 bits.
pub checked : (m : ℕ) (sum : Option ℕ) → SomeIff sum (m < 2 ^ 32) m → sum ≡ if_word m
checked m None over = sym (from-limit m (omega arith))
checked m (Some x) (small, e) = rw (below-limit m small, e)

-- What is kept tells whether the line is a word: it is begun, and it has a number.
word-if : (begun digits : Bool) (n : ℕ) → cond begun (kept digits n) None ≡ cond (begun && digits && ltb n (2 ^ 32)) (Some n) None
unfolding if_word
word-if false digits n = refl
word-if true false n = refl
word-if true true n = refl

pub reading-tells : (t : List ℕ) → word_of (reading_of t) ≡ word_in t
unfolding word_of reading_of word_in is_decimal
reading-tells t = word-if (not (eqb (length t) 0)) (all_decimal t) (decimal_number t)
