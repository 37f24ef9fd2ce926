-- How many bytes digits are, and the next two digits of a text: the byte that they make, and whether they are digits at all.
use mathlib.Core.Path.{◌≡◌, refl, ap}
use mathlib.Core.Bool.{false, and-false}
use mathlib.Core.List.{List, [], ◌∷◌, ◌++◌}
use Prim.Native.Nat.{ℕ, zero, suc, ◌+◌, ◌*◌, ◌≤◌, ◌<◌}
use native.Mathlib.Omega.{arith}
use lib.ListN.{length, get_or}
use borrow.Author.Tests.{lt-ltb, le-ltb}
use Rattle.frames.specs.Hex.{digit_value, all_digits, bytes_of}

-- A line has half as many bytes as digits.
pub bytes-length : (n : ℕ) (line : List ℕ) → length line ≡ 2 * n → length (bytes_of line) ≡ n
unfolding bytes_of
bytes-length zero [] e = refl
bytes-length (suc n) [] e = absurd (omega arith)
bytes-length n (c ∷ []) e = absurd (omega arith)
bytes-length zero (high ∷ low ∷ rest) e = absurd (omega arith)
bytes-length (suc n) (high ∷ low ∷ rest) e = ap suc (bytes-length n rest (omega arith))

-- Digits begin with two, and the numbers that these stand for.
pub record Digits (rest after : List ℕ) (high low : ℕ) : Type 0 where
  pub a : ℕ
  pub b : ℕ
  pub rest_is : rest ≡ a ∷ b ∷ after
  pub first : high ≡ digit_value a
  pub second : low ≡ digit_value b

pub two-digits : (pair : List ℕ) {rest after : List ℕ} {high low : ℕ} → rest ≡ pair ++ after → length pair ≡ 2
    → high ≡ digit_value (get_or pair 0 0) → low ≡ digit_value (get_or pair 1 0) → Digits rest after high low
two-digits [] e two first second = absurd (omega arith)
two-digits (a ∷ []) e two first second = absurd (omega arith)
two-digits (a ∷ b ∷ []) e two first second = record { a = a; b = b; rest_is = e; first = first; second = second }
two-digits (a ∷ b ∷ c ∷ more) e two first second = absurd (omega arith)

module _ {rest after : List ℕ} {high low : ℕ} (next : Digits rest after high low) where
  pub next-byte : bytes_of rest ≡ (16 * high + low) ∷ bytes_of after
  unfolding bytes_of
  next-byte = rw (next.rest_is, next.first, next.second)

  pub next-sound : high < 16 → low < 16 → all_digits rest ≡ all_digits after
  unfolding all_digits
  next-sound h l = rw (next.rest_is, ← next.first, ← next.second, lt-ltb _ _ h, lt-ltb _ _ l)

  pub high-unsound : 16 ≤ high → all_digits rest ≡ false
  unfolding all_digits
  high-unsound h = rw (next.rest_is, ← next.first, le-ltb _ _ h)

  pub low-unsound : 16 ≤ low → all_digits rest ≡ false
  unfolding all_digits
  low-unsound l = rw (next.rest_is, ← next.second, le-ltb _ _ l, and-false)
