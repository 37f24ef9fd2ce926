-- Document 01, "Bits, lines and the report": "two digits 0-9 A-F a byte".
use Rattle.std.specs.Prelude.{Bool, true, cond, ◌&&◌, List, [], ◌∷◌, ℕ, ◌+◌, ◌-◌, ◌*◌, ltb}
use Rattle.refusal.specs.Checks.{outside}

-- The number that a digit stands for; 16 for any other character. 48 is '0', 57 '9', 65 'A', 70 'F'.
unfoldable pub digit_value : ℕ → ℕ
digit_value c = cond (outside 48 57 c) (cond (outside 65 70 c) 16 (c - 55)) (c - 48)

unfoldable pub all_digits : List ℕ → Bool
all_digits [] = true
all_digits (c ∷ cs) = ltb (digit_value c) 16 && all_digits cs

-- The bytes of a line, the digit for the sixteens first.
unfoldable pub bytes_of : List ℕ → List ℕ
bytes_of [] = []
bytes_of (c ∷ []) = []
bytes_of (high ∷ low ∷ rest) = (16 * digit_value high + digit_value low) ∷ bytes_of rest
