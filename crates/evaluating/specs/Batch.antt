-- What the call `evaluate_batch` answers, "for a batch 14, then 12 and 13 word by word", and what it leaves in the output.
use Rattle.std.specs.Prelude.{cond, ◌&&◌, List, [], ◌∷◌, ◌++◌, map, ℕ, zero, suc, eqb, ltb, length, get_or, drop, ℤ, Result, Ok, Err}
use Rattle.refusal.specs.declared.Cause.{Cause}
use Rattle.refusal.specs.Verdict.{Verdict}
use Rattle.refusal.specs.Numbers.{number_of}
use Rattle.refusal.specs.Checks.{Check, ◌↝◌, verdict, if_passed, passes}
use Rattle.refusal.specs.Told.{Told, accepted, refused, told_at}
use Rattle.design.specs.declared.Design.{Design}
use Rattle.tables.specs.Sum.{word_at}
use Rattle.tables.specs.Set.{set_checks}
use Rattle.evaluating.specs.declared.BatchRefusal.{BatchRefusal}
use Rattle.evaluating.specs.Evaluate.{word_checks}

-- 14, "output shorter than the batch"
unfoldable pub output_check : ℕ → ℕ → Check
output_check words output = ltb output words ↝ Cause.OutputShort

-- 1 to 10, 14: what is tried before any word
unfoldable pub room_verdict : Design → List ℕ → List ℤ → ℕ → ℕ → Verdict
room_verdict d initial offsets words output =
    verdict (set_checks d (length initial) (length offsets) ++ output_check words output ∷ [])

-- What a batch comes to: how many words there are, or the cause of the refusal and the place of the word
abbrev pub Batched : Type 0
Batched = Result ℕ BatchRefusal

abbrev pub refused_at : ℕ → Cause → Batched
refused_at place cause = Err (record { cause = cause; place = place })

-- "all evaluated or all refused, at its lowest bad place": the answer for n words, then for one more
abbrev pub with_word : Batched → Verdict → ℕ → Batched
with_word (Err refusal) word n = Err refusal
with_word (Ok count) (Err cause) n = refused_at n cause
with_word (Ok count) (Ok tt) n = Ok (suc n)

-- The answer for the first n words, by each word's verdict. ".. an accepted batch returns its number of words, 0 for an empty one."
unfoldable pub batch_below : ℕ → (ℕ → Verdict) → Batched
batch_below zero word = Ok 0
batch_below (suc n) word = with_word (batch_below n word) (word n) n

unfoldable pub place_verdict : Design → List ℕ → List ℤ → List ℕ → ℕ → Verdict
place_verdict d initial offsets words n = verdict (word_checks d initial offsets (get_or words n 0))

-- "for a batch also the place of the word (0 for all other causes)"
abbrev pub after_room : Verdict → Batched → Batched
after_room room answer = if_passed room answer (refused_at 0)

unfoldable pub batch_answer : Design → List ℕ → List ℤ → List ℕ → ℕ → Batched
batch_answer d initial offsets words output =
    after_room (room_verdict d initial offsets (length words) output) (batch_below (length words) (place_verdict d initial offsets words))

-- All checks of a batch in their order, "for a batch 14, then 12 and 13 word by word": those of the first n words,
unfoldable pub checks_below : ℕ → (ℕ → List Check) → List Check
checks_below zero word = []
checks_below (suc n) word = checks_below n word ++ word n

-- after 1 to 10 and 14. It is the refusal of the answer above, whose place it leaves open.
unfoldable pub batch_verdict : Design → List ℕ → List ℤ → List ℕ → ℕ → Verdict
batch_verdict d initial offsets words output =
    verdict
    ((set_checks d (length initial) (length offsets) ++ output_check (length words) output ∷ [])
    ++ checks_below (length words) (λ n. word_checks d initial offsets (get_or words n 0)))

-- "Output beyond the batch is untouched", and all of it when the batch is refused.
abbrev pub output_left : Batched → List ℕ → List ℕ → List ℕ
output_left (Ok count) words output = words ++ drop (length words) output
output_left (Err refusal) words output = output

unfoldable pub output_after : Design → List ℕ → List ℤ → List ℕ → List ℕ → List ℕ
output_after d initial offsets words output =
    output_left (batch_answer d initial offsets words (length output)) (map (word_at d initial offsets) words) output

-- What each answer tells: how many words there are, or the refusal's number and the place
abbrev pub told_by : Batched → Told ℕ
told_by (Ok count) = accepted count
told_by (Err refusal) = refused (number_of refusal.cause) refusal.place

-- How many of the first n words pass before one does not: the place of the lowest bad word, if there is one
unfoldable pub passing : ℕ → (ℕ → Verdict) → ℕ
passing zero word = 0
passing (suc n) word = cond (eqb (passing n word) n && passes (word n)) (suc n) (passing n word)

-- "for a batch also the place of the word (0 for all other causes)"
abbrev pub place_if : Verdict → ℕ → ℕ
place_if room place = if_passed room place (λ cause. 0)

-- What is to be told: the refusal's number, by all checks in their order, and the place of the lowest bad word; else how many words
unfoldable pub batch_told : Design → List ℕ → List ℤ → List ℕ → ℕ → Told ℕ
batch_told d initial offsets words output =
    told_at (batch_verdict d initial offsets words output)
    (place_if (room_verdict d initial offsets (length words) output) (passing (length words) (place_verdict d initial offsets words)))
    (length words)
