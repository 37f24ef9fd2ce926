-- What the call `value` answers: "values 1 to 4, 12", else L(X) in table units and whether it is E(X). "The input word x .. stands for
-- X = 2^w + x."
use Rattle.std.specs.Prelude.{Result, [], ◌∷◌, ◌++◌, ℕ, ◌+◌, ◌^◌, leb}
use Rattle.refusal.specs.declared.Cause.{Cause}
use Rattle.refusal.specs.Verdict.{Verdict}
use Rattle.refusal.specs.Checks.{Check, ◌↝◌, verdict, answer}
use Rattle.refusal.specs.Told.{Told, told}
use Rattle.values.specs.declared.FloorValue.{FloorValue}
use Rattle.values.specs.Rows.{row_of}
use Rattle.values.specs.Floor.{floor_and_whole}
use Rattle.values.specs.Widths.{limits_of, width_checks}

-- 12, "x ≥ 2^w"
unfoldable pub word_check : ℕ → ℕ → Check
word_check w x = leb (2 ^ w) x ↝ Cause.WordRange

unfoldable pub value_verdict : ℕ → ℕ → ℕ → ℕ → ℕ → Verdict
value_verdict kind w q g x = verdict (width_checks (limits_of kind) kind w q g ++ word_check w x ∷ [])

unfoldable pub value_of : ℕ → ℕ → ℕ → ℕ → ℕ → Result FloorValue Cause
value_of kind w q g x = answer (value_verdict kind w q g x) (floor_and_whole (row_of kind) w (q + g) (2 ^ w + x))

-- What is to be told: "values 1 to 4, 12", else L(X), and "whether E(X) is that whole number"
unfoldable pub value_told : ℕ → ℕ → ℕ → ℕ → ℕ → Told FloorValue
value_told kind w q g x = told (value_verdict kind w q g x) (floor_and_whole (row_of kind) w (q + g) (2 ^ w + x))
