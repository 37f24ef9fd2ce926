-- A byte and its two digits: reading what is written gives the bytes back, and writing what is read gives the line back.
use mathlib.Core.Path.{◌≡◌, refl, ◌∙◌}
use mathlib.Core.Bool.{Bool, true, false, or-true}
use mathlib.Core.List.{List, [], ◌∷◌, ◌++◌}
use Prim.Native.Nat.{ℕ, zero, suc, ◌+◌, ◌-◌, ◌*◌, ◌/◌, ◌%◌, ◌≤◌, ◌<◌}
use native.Mathlib.Omega.{arith}
use native.Mathlib.Decide.{dec_lt}
use lib.Dec.{ltb}
use lib.ListN.{length}
use borrow.Author.Tests.{ltb-true, lt-ltb, le-ltb}
use Rattle.general.proofs.Tests.{both}
use Rattle.refusal.specs.Checks.{outside}
use Rattle.refusal.proofs.Checks.{inside}
use Rattle.frames.specs.Hex.{digit_value, all_digits, bytes_of}
use Rattle.encoding.specs.Encode.{digit_of, hex_of}

-- every number of the list is a byte
abbrev pub Bytes : List ℕ → Type 0
Bytes [] = Unit {0}
Bytes (b ∷ bs) = (b < 256) × Bytes bs

-- A number between the two ends is not outside.
between : (low high n : ℕ) → low ≤ n → n ≤ high → outside low high n ≡ false
between low high n l h = rw (le-ltb n low l, le-ltb high n h)

-- The characters 48 to 57 are the digits 0 to 9, and 65 to 70 are A to F. Nothing else is a digit.
module _ (c : ℕ) where
  numeral-value : outside 48 57 c ≡ false → digit_value c ≡ c - 48
  unfolding digit_value
  numeral-value e = rw e

  letter-value : outside 48 57 c ≡ true → outside 65 70 c ≡ false → digit_value c ≡ c - 55
  unfolding digit_value
  letter-value e f = rw (e, f)

  other-value : outside 48 57 c ≡ true → outside 65 70 c ≡ true → digit_value c ≡ 16
  unfolding digit_value
  other-value e f = rw (e, f)

-- Numbers below 10 are written as 0 to 9, the others as A on.
module _ (n : ℕ) where
  numeral-of : n < 10 → digit_of n ≡ 48 + n
  unfolding digit_of
  numeral-of h = rw (lt-ltb n 10 h)

  letter-of : 10 ≤ n → digit_of n ≡ 55 + n
  unfolding digit_of
  letter-of h = rw (le-ltb n 10 h)

  -- A number below 16 is written as the digit that stands for it.
  pub digit-back : n < 16 → digit_value (digit_of n) ≡ n
  digit-back h =
      elim (dec_lt n 10) [
        | yes small ↦
            rw (numeral-of small) (numeral-value (48 + n) (between 48 57 (48 + n) (omega arith) (omega arith)) ∙ omega arith)
        | no large ↦
            let no-numeral : outside 48 57 (55 + n) ≡ true = rw (lt-ltb 57 (55 + n) (omega arith), or-true) in
            rw (letter-of (omega arith))
            (letter-value (55 + n) no-numeral (between 65 70 (55 + n) (omega arith) (omega arith)) ∙ omega arith)
      ]

-- A digit is what its value is written as.
pub digit-again : (c : ℕ) → digit_value c < 16 → digit_of (digit_value c) ≡ c
digit-again c h = go (outside 48 57 c) (outside 65 70 c) refl refl
  where
    go : (numeral letter : Bool) → outside 48 57 c ≡ numeral → outside 65 70 c ≡ letter → digit_of (digit_value c) ≡ c
    go false letter e _ =
        let range = inside 48 57 c e in
        rw (numeral-value c e) (numeral-of (c - 48) (omega arith) ∙ omega arith)
    go true false e f =
        let range = inside 65 70 c f in
        rw (letter-value c e f) (letter-of (c - 55) (omega arith) ∙ omega arith)
    go true true e f = absurd (omega (arith, other-value c e f))

-- A byte has two digits.
pub hex-length : (bs : List ℕ) → length (hex_of bs) ≡ 2 * length bs
unfolding hex_of
hex-length [] = refl
hex-length (b ∷ bs) = omega (arith, hex-length bs)

-- What is written are digits.
pub hex-digits : (bs : List ℕ) → Bytes bs → all_digits (hex_of bs) ≡ true
unfolding hex_of all_digits
hex-digits [] small = refl
hex-digits (b ∷ bs) small =
    let first : b < 256 = small.0 in
    rw (
      digit-back (b / 16) (omega arith),
      digit-back (b % 16) (omega arith),
      lt-ltb (b / 16) 16 (omega arith),
      lt-ltb (b % 16) 16 (omega arith),
    ) (hex-digits bs small.1)

-- Bytes that are written are read again.
pub hex-back : (bs : List ℕ) → Bytes bs → bytes_of (hex_of bs) ≡ bs
unfolding hex_of bytes_of
hex-back [] small = refl
hex-back (b ∷ bs) small =
    let first : b < 256 = small.0 in
    let byte : 16 * (b / 16) + b % 16 ≡ b = omega arith in
    rw (digit-back (b / 16) (omega arith), digit-back (b % 16) (omega arith), byte, hex-back bs small.1)

-- Two digits make a byte.
pub bytes_small : (line : List ℕ) → all_digits line ≡ true → Bytes (bytes_of line)
unfolding all_digits bytes_of
bytes_small [] e = tt
bytes_small (c ∷ []) e = tt
bytes_small (high ∷ low ∷ rest) e =
    let first = both (ltb (digit_value high) 16) _ e in
    let second = both (ltb (digit_value low) 16) _ first.1 in (
      omega (arith, ltb-true (digit_value high) 16 first.0, ltb-true (digit_value low) 16 second.0),
      bytes_small rest second.1,
    )

-- A line that is read is written again.
pub hex-again : (n : ℕ) (line : List ℕ) → length line ≡ 2 * n → all_digits line ≡ true → hex_of (bytes_of line) ≡ line
unfolding hex_of bytes_of all_digits
hex-again n [] e digits = refl
hex-again n (c ∷ []) e digits = absurd (omega arith)
hex-again zero (high ∷ low ∷ rest) e digits = absurd (omega arith)
hex-again (suc n) (high ∷ low ∷ rest) e digits =
    let first = both _ _ digits in
    let second = both _ _ first.1 in
    let h : digit_value high < 16 = ltb-true _ _ first.0 in
    let l : digit_value low < 16 = ltb-true _ _ second.0 in
    let upper : (16 * digit_value high + digit_value low) / 16 ≡ digit_value high = omega arith in
    let lower : (16 * digit_value high + digit_value low) % 16 ≡ digit_value low = omega arith in
    rw (upper, lower, digit-again high h, digit-again low l, hex-again n rest (omega arith) second.1)

-- Bytes behind bytes are bytes, and so are the two parts of bytes.
pub bytes-append : (xs ys : List ℕ) → Bytes xs → Bytes ys → Bytes (xs ++ ys)
bytes-append [] ys small-xs small-ys = small-ys
bytes-append (x ∷ xs) ys small-xs small-ys = (small-xs.0, bytes-append xs ys small-xs.1 small-ys)

pub bytes-parts : (xs ys : List ℕ) → Bytes (xs ++ ys) → Bytes xs × Bytes ys
bytes-parts [] ys small = (tt, small)
bytes-parts (x ∷ xs) ys small =
    let rest = bytes-parts xs ys small.1 in
    ((small.0, rest.0), rest.1)
