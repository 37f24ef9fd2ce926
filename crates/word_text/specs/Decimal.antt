-- A line as an input word: one digit 0-9 or more and nothing else, which stand for a number below 2^32.
use Rattle.std.specs.Prelude.{Bool, true, cond, not, ◌&&◌, List, [], ◌∷◌, ℕ, ◌+◌, ◌-◌, ◌*◌, ◌^◌, ltb, eqb, length, Option, Some, None, option_and_then}
use Rattle.refusal.specs.Checks.{outside}
use Rattle.word_text.specs.declared.WordText.{WordText}

-- Digits 0-9 and nothing else: 48 is '0', 57 is '9'. No sign, no space, no carriage return.
unfoldable pub all_decimal : List ℕ → Bool
all_decimal [] = true
all_decimal (c ∷ cs) = not (outside 48 57 c) && all_decimal cs

-- One digit or more. Leading zeros are fine.
unfoldable pub is_decimal : List ℕ → Bool
is_decimal t = not (eqb (length t) 0) && all_decimal t

-- The number that digits stand for
unfoldable pub decimal_number : List ℕ → ℕ
decimal_number [] = 0
decimal_number (c ∷ cs) = (c - 48) * 10 ^ length cs + decimal_number cs

-- What a line is: an input word has 32 bits.
unfoldable pub word_in : List ℕ → Option ℕ
word_in t = cond (is_decimal t && ltb (decimal_number t) (2 ^ 32)) (Some (decimal_number t)) None

-- A number of 2^32 or more is no word, whatever digits follow.
unfoldable pub if_word : ℕ → Option ℕ
if_word n = cond (ltb n (2 ^ 32)) (Some n) None

-- What is kept of a line while it is read: the number, where there are digits alone and it is one of 32 bits, and whether any character came.
-- The proofs show that the definitions below lead from there to what the whole line is.
unfoldable pub reading_of : List ℕ → WordText
reading_of t = record { number = cond (all_decimal t) (if_word (decimal_number t)) None; begun = not (eqb (length t) 0) }

-- A number, if there is one, with one character more behind its digits
unfoldable pub longer : Option ℕ → ℕ → Option ℕ
longer number c = cond (outside 48 57 c) None (option_and_then (λ n. if_word (10 * n + (c - 48))) number)

-- What is kept with one character more: once no word, it stays none.
unfoldable pub after_character : WordText → ℕ → WordText
after_character s c = record { number = longer s.number c; begun = true }

-- What a line is, by what is kept of it
unfoldable pub word_of : WordText → Option ℕ
word_of s = cond s.begun s.number None
