-- Lines that are a question and lines that are none, computed from the definitions. They were worked out apart from these.
use Rattle.question_text.specs.declared.Question.{Question}
use Rattle.std.specs.Prelude.{Option, Some, None}
use mathlib.Core.Path.{◌≡◌, refl}
use mathlib.Core.List.{List, [], ◌∷◌, map}
use Prim.Native.Nat.{ℕ}
use Prim.Native.String as Str
use Prim.Native.String.{String}
use Prim.Native.Char.{code}
use Rattle.word_text.specs.Decimal.{all_decimal, is_decimal, decimal_number, word_in}
use Rattle.question_text.specs.Question.{fields_from, fields, field, three_numbers, question_in}

abbrev characters : String → List ℕ
characters Str.[] = []
characters (Str.◌∷◌ c s) = code c ∷ characters s

abbrev numbers : ℕ → ℕ → ℕ → Option Question
numbers kind w q = Some (record { kind = kind; w = w; q = q })

abbrev none : Option Question
none = None

-- A line, and what it is
abbrev table : List (String × (Option Question))
table =
    ("0 8 8", numbers 0 8 8) ∷ ("4 16 16", numbers 4 16 16) ∷ ("00 08 4294967295", numbers 0 8 4294967295) ∷ ("", none) ∷ ("0 8", none)
    ∷ ("0 8 8 1", none) ∷ ("0  8 8", none) ∷ ("0 8 8 ", none) ∷ (" 0 8 8", none) ∷ ("4294967296 8 8", none) ∷ ("0 8\t8", none)
    ∷ ("0 8 8\r", none) ∷ ("0 +8 8", none) ∷ []

pub examples : map (λ row. question_in (characters row.0)) table ≡ map (λ row. row.1) table
unfolding all_decimal is_decimal decimal_number word_in fields_from fields field three_numbers question_in
examples = refl
