-- Document 02, A6: the size in bits, and what the call `size` answers.
use Rattle.refusal.specs.declared.Cause.{Cause}
use Rattle.std.specs.Prelude.{Result, [], ◌∷◌, ◌++◌, ℕ, ◌+◌, ◌*◌}
use Rattle.general.specs.Below.{sum_below}
use Rattle.refusal.specs.Verdict.{Verdict}
use Rattle.refusal.specs.Checks.{verdict, answer}
use Rattle.refusal.specs.Told.{Told, told}
use Rattle.design.specs.declared.Design.{Design}
use Rattle.design.specs.Cut.{fraction_bits}
use Rattle.design.specs.Stored.{initial_count, offset_count}
use Rattle.design.specs.Legal.{design_checks}
use Rattle.design.specs.Budget.{admitted_check}
use Rattle.sizing.specs.Width.{offset_bits}

-- "An initial entry counts P+2 bits."
unfoldable pub initial_size : Design → ℕ
initial_size d = initial_count d * (fraction_bits d + 2)

-- "Arrays now store each table at its own width"
unfoldable pub table_size : Design → ℕ → ℕ
table_size d i = offset_count d i * offset_bits d i

unfoldable pub size : Design → ℕ
size d = initial_size d + sum_below d.m (table_size d)

-- "The size applies to admitted designs only; the size call refuses the others with 11, after 9"
unfoldable pub size_verdict : Design → Verdict
size_verdict d = verdict (design_checks d ++ admitted_check d ∷ [])

unfoldable pub size_answer : Design → Result ℕ Cause
size_answer d = answer (size_verdict d) (size d)

-- What is to be told
unfoldable pub size_told : Design → Told ℕ
size_told d = told (size_verdict d) (size d)
