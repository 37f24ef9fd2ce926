-- Document 01, refusal 15, "empty, odd length, over 32 digits, other character, wrong sum", and what a sound line holds.
use Rattle.std.specs.Prelude.{Bool, cond, not, ◌||◌, List, [], ◌∷◌, ◌++◌, ℕ, ◌-◌, ◌%◌, ltb, eqb, length, take, replicate, Option, Some, None, Result}
use Rattle.general.specs.Lists.{total}
use Rattle.refusal.specs.declared.Cause.{Cause}
use Rattle.refusal.specs.Checks.{Check, ◌↝◌, verdict, answer}
use Rattle.frames.specs.declared.Decoded.{Decoded}
use Rattle.frames.specs.Hex.{all_digits, bytes_of}

-- "all bytes sum to 0 mod 256"
unfoldable pub sum_fails : List ℕ → Bool
sum_fails bytes = not (eqb (total bytes % 256) 0)

-- The longest line, in digits: "over 32 digits"
abbrev pub longest_line : ℕ
longest_line = 32

-- "odd length, over 32 digits"
abbrev pub length_fails : ℕ → Bool
length_fails digits = eqb (digits % 2) 1 || ltb longest_line digits

-- "other character, wrong sum": what turns down digits, whatever they are the digits of
unfoldable pub text_fails : List ℕ → Bool
text_fails digits = not (all_digits digits) || sum_fails (bytes_of digits)

-- What turns down a line that is not empty: "odd length, over 32 digits, other character, wrong sum"
unfoldable pub digits_fail : List ℕ → Bool
digits_fail line = length_fails (length line) || text_fails line

-- "empty"
abbrev pub is_empty : List ℕ → Bool
is_empty line = eqb (length line) 0

unfoldable pub line_fails : List ℕ → Bool
line_fails line = is_empty line || digits_fail line

unfoldable pub line_checks : List ℕ → List Check
line_checks line = line_fails line ↝ Cause.Line ∷ []

-- How many bytes an array holds that frames and records are read into or put together in. The longest line's are 16; a record's (length,
-- address, type, 16 data bytes, sum: 1 + 2 + 1 + 16 + 1) are 21.
abbrev pub capacity : ℕ
capacity = 21

-- The bytes with zeros behind them, as many in all as an array holds
unfoldable pub padded : List ℕ → List ℕ
padded bytes = bytes ++ replicate (capacity - length bytes) 0

-- What is kept of digits: their bytes, as many as an array holds, and how many there are
abbrev pub kept : List ℕ → Decoded
kept digits = record { bytes = padded (take capacity (bytes_of digits)); count = length (bytes_of digits) }

-- What the call `decode_digits` answers: nothing, where the digits fail.
unfoldable pub decoded_digits : List ℕ → Option Decoded
decoded_digits digits = cond (text_fails digits) None (Some (kept digits))

-- What the call `decode` answers: the bytes of a sound line.
unfoldable pub decoded : List ℕ → Result Decoded Cause
decoded line = answer (verdict (line_checks line)) (kept line)
