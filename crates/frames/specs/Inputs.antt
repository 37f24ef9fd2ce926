-- What inner calls may count on. Their callers are proved to see to it.
use Rattle.std.specs.Prelude.{◌≡◌, List, [], ◌∷◌, ℕ, ◌*◌, ◌/◌, ◌^◌, ◌≤◌}

-- So few digits that the sum of their bytes is far below 2^32
abbrev pub most_digits : ℕ
most_digits = 2 ^ 20

-- Two digits a byte, and not too many to sum
pub record EvenDigits (n : ℕ) : Type 0 where
  pub even : n ≡ 2 * (n / 2)
  pub few : n ≤ most_digits

-- The numbers that the characters from 48 to 70 stand for, 16 for those among them that are no digits
abbrev pub digit_numbers : List ℕ
digit_numbers =
    0 ∷ 1 ∷ 2 ∷ 3 ∷ 4 ∷ 5 ∷ 6 ∷ 7 ∷ 8 ∷ 9 ∷ 16 ∷ 16 ∷ 16 ∷ 16 ∷ 16 ∷ 16 ∷ 16 ∷ 10 ∷ 11 ∷ 12 ∷ 13 ∷ 14 ∷ 15 ∷ []
