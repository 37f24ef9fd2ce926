-- Document 01, "Bits, lines and the report": "two digits 0-9 A-F a byte, .. last byte such that all bytes sum to 0 mod 256".
use Rattle.std.specs.Prelude.{cond, List, [], ◌∷◌, ◌++◌, ℕ, ◌+◌, ◌-◌, ◌/◌, ◌%◌, ltb}
use Rattle.general.specs.Lists.{total}

-- The digit for a number below 16. 48 is '0', 65 is 'A'.
unfoldable pub digit_of : ℕ → ℕ
digit_of n = cond (ltb n 10) (48 + n) (55 + n)

-- "two digits .. a byte", the digit for the sixteens first
unfoldable pub hex_of : List ℕ → List ℕ
hex_of [] = []
hex_of (byte ∷ bytes) = digit_of (byte / 16) ∷ digit_of (byte % 16) ∷ hex_of bytes

-- "last byte such that all bytes sum to 0 mod 256"
unfoldable pub sum_byte : List ℕ → ℕ
sum_byte bytes = (256 - total bytes % 256) % 256

unfoldable pub with_sum : List ℕ → List ℕ
with_sum bytes = bytes ++ (sum_byte bytes ∷ [])

-- "one frame a line": the line of a frame that is given without its sum byte
unfoldable pub line_of : List ℕ → List ℕ
line_of frame = hex_of (with_sum frame)
