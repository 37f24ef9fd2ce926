-- A line as a question: three decimal numbers, with exactly one space between them and nothing else.
use Rattle.question_text.specs.declared.Question.{Question}
use Rattle.std.specs.Prelude.{cond, List, [], ◌∷◌, ◌++◌, ℕ, ◌+◌, ◌-◌, min, eqb, length, get_or, slice_set, Option, Some, None}
use Rattle.word_text.specs.declared.WordText.{WordText}
use Rattle.word_text.specs.Decimal.{word_in, reading_of, after_character, word_of}
use Rattle.question_text.specs.declared.QuestionText.{QuestionText}

-- The fields of a text, split at each space (character 32). `begun` is what its first field began with before the text.
unfoldable pub fields_from : List ℕ → List ℕ → List (List ℕ)
fields_from begun [] = begun ∷ []
fields_from begun (c ∷ cs) = cond (eqb c 32) (begun ∷ fields_from [] cs) (fields_from (begun ++ c ∷ []) cs)

-- The fields of a whole text: one more than it has spaces. A field has no character where two spaces meet, or one stands at an end.
unfoldable pub fields : List ℕ → List (List ℕ)
fields t = fields_from [] t

-- Field n, counted from 0; no character where there is no such field
unfoldable pub field : List (List ℕ) → ℕ → List ℕ
field fs n = get_or fs n []

-- Three words are the numbers of a question, in the order kind, w, q.
unfoldable pub three_numbers : (Option ℕ) → Option ℕ → Option ℕ → Option Question
three_numbers (Some kind) (Some w) (Some q) = Some (record { kind = kind; w = w; q = q })
three_numbers (Some kind) (Some w) None = None
three_numbers (Some kind) None q = None
three_numbers None w q = None

-- What a line is: three fields, each of which is a word.
unfoldable pub question_in : List ℕ → Option Question
question_in t =
    let fs = fields t in
    cond (eqb (length fs) 3) (three_numbers (word_in (field fs 0)) (word_in (field fs 1)) (word_in (field fs 2))) None

-- What is kept of a line while it is read, by its fields so far: what word_text keeps of each of the first three, and how many spaces came.
-- Three are too many, whatever follows, so more need not be told from three. The proofs show that the definitions below lead from there to
-- what the whole line is.
unfoldable pub kept_of : List (List ℕ) → QuestionText
kept_of fs =
    record {
      numbers = reading_of (field fs 0) ∷ reading_of (field fs 1) ∷ reading_of (field fs 2) ∷ [];
      spaces = min (length fs - 1) 3;
    }

-- What is kept of field n; of no character, where there is no such field
unfoldable pub number_at : List WordText → ℕ → WordText
number_at numbers n = get_or numbers n (reading_of [])

-- What is kept with one character more: a space, or a character of the field that the spaces so far lead to, if it is one of the three
unfoldable pub with_character : QuestionText → ℕ → QuestionText
with_character s c =
    cond (eqb c 32)
    (record { numbers = s.numbers; spaces = min (s.spaces + 1) 3 })
    (record { numbers = slice_set s.numbers s.spaces (after_character (number_at s.numbers s.spaces) c); spaces = s.spaces })

-- What a line is, by what is kept of it
unfoldable pub question_of : QuestionText → Option Question
question_of s =
    let word = λ (n : ℕ). word_of (number_at s.numbers n) in
    cond (eqb s.spaces 2) (three_numbers (word 0) (word 1) (word 2)) None

-- What is kept when the characters of a text have come, one after another
unfoldable pub fed : QuestionText → List ℕ → QuestionText
fed s [] = s
fed s (c ∷ cs) = fed (with_character s c) cs
