-- Words and decimal numbers as bytes, and text that is kept in an array.
use Rattle.std.specs.Prelude.{cond, List, [], ◌∷◌, ◌++◌, ℕ, zero, suc, ◌+◌, ◌-◌, ◌/◌, ◌%◌, ltb, length, replicate}
use Prim.Native.String as Str
use Prim.Native.String.{String}
use Prim.Native.Char.{code}
use Rattle.report_text.specs.declared.Text.{Text}

abbrev pub ascii : String → List ℕ
ascii Str.[] = []
ascii (Str.◌∷◌ c s) = code c ∷ ascii s

-- The decimal digits of a number of at most k digits. 48 is '0'.
unfoldable pub decimal_within : ℕ → ℕ → List ℕ
decimal_within zero n = []
decimal_within (suc k) n = cond (ltb n 10) ((48 + n) ∷ []) (decimal_within k (n / 10) ++ (48 + n % 10) ∷ [])

-- 20 digits hold every 64-bit number
unfoldable pub decimal : ℕ → List ℕ
decimal n = decimal_within 20 n

unfoldable pub text_of : List ℕ → Text
text_of bytes = record { bytes = bytes ++ replicate (96 - length bytes) 0; count = length bytes }
