-- What the call `evaluate` answers: "evaluation 1 to 10, .. then 12 and 13", else the word.
use Rattle.values.specs.declared.OutputUnits.{OutputUnits}
use Rattle.std.specs.Prelude.{List, [], ◌∷◌, ◌++◌, ℕ, length, ℤ, Result, Ok, Err}
use Rattle.refusal.specs.declared.Cause.{Cause}
use Rattle.refusal.specs.Verdict.{Verdict}
use Rattle.refusal.specs.Numbers.{number_of}
use Rattle.refusal.specs.Checks.{Check, ◌↝◌, verdict, answer}
use Rattle.refusal.specs.Told.{Told, accepted, refused, told}
use Rattle.values.specs.Value.{word_check}
use Rattle.design.specs.declared.Design.{Design}
use Rattle.tables.specs.Sum.{sum_at, sum_outside, word_at}
use Rattle.tables.specs.Set.{set_checks}

-- 12, "x ≥ 2^w", then 13, "Y out of range"
unfoldable pub word_checks : Design → List ℕ → List ℤ → ℕ → List Check
word_checks d initial offsets x = word_check d.w x ∷ sum_outside d (sum_at d initial offsets x) ↝ Cause.SumRange ∷ []

unfoldable pub evaluate_verdict : Design → List ℕ → List ℤ → ℕ → Verdict
evaluate_verdict d initial offsets x = verdict (set_checks d (length initial) (length offsets) ++ word_checks d initial offsets x)

abbrev pub evaluated : Verdict → ℕ → Result OutputUnits Cause
evaluated v word = answer v (record { 0 = word })

unfoldable pub evaluate_answer : Design → List ℕ → List ℤ → ℕ → Result OutputUnits Cause
evaluate_answer d initial offsets x = evaluated (evaluate_verdict d initial offsets x) (word_at d initial offsets x)

-- What each answer tells: the word, in output units, or the refusal's number
abbrev pub told_by : Result OutputUnits Cause → Told ℕ
told_by (Ok word) = accepted word.0
told_by (Err cause) = refused (number_of cause) 0

-- What is to be told: "evaluation 1 to 10, .. then 12 and 13", else the word
unfoldable pub evaluate_told : Design → List ℕ → List ℤ → ℕ → Told ℕ
evaluate_told d initial offsets x = told (evaluate_verdict d initial offsets x) (word_at d initial offsets x)
