-- Document 01, "Bits, lines and the report": numbers as bytes, and bytes as numbers.
use Rattle.std.specs.Prelude.{Bool, cond, List, [], ◌∷◌, ℕ, zero, suc, ◌+◌, ◌-◌, ◌*◌, ◌/◌, ◌%◌, ◌^◌, ltb, length, ℤ, pos, negsuc}

-- "numbers big-endian": a number in n bytes, the highest first
unfoldable pub big_endian : ℕ → ℕ → List ℕ
big_endian zero v = []
big_endian (suc n) v = (v / 2 ^ (8 * n) % 256) ∷ big_endian n v

-- The number that bytes hold
unfoldable pub number_in : List ℕ → ℕ
number_in [] = 0
number_in (byte ∷ bytes) = byte * 2 ^ (8 * length bytes) + number_in bytes

-- How many bytes an entry takes: "initial entry (3 bytes)", "offset (3, two's complement)"
abbrev pub entry_bytes : ℕ
entry_bytes = 3

-- "two's complement", in n bytes: -1 - v, which is `negsuc v`, is written as 2^(8n) - 1 - v.
unfoldable pub complement : ℕ → ℤ → ℕ
complement n (pos v) = v
complement n (negsuc v) = 2 ^ (8 * n) - 1 - v

-- What n bytes in two's complement stand for: the upper half of the numbers is negative.
unfoldable pub from_complement : ℕ → ℕ → ℤ
from_complement n v = cond (ltb v (2 ^ (8 * n - 1))) (pos v) (negsuc (2 ^ (8 * n) - 1 - v))

-- 18, "entry does not fit its 3 bytes", here n, the other way round: a number without sign fits, and one in two's complement, which is
-- -2^(8n-1) or more and below 2^(8n-1)
unfoldable pub fits : ℕ → ℕ → Bool
fits n v = ltb v (2 ^ (8 * n))

unfoldable pub fits_signed : ℕ → ℤ → Bool
fits_signed n (pos v) = ltb v (2 ^ (8 * n - 1))
fits_signed n (negsuc v) = ltb v (2 ^ (8 * n - 1))
