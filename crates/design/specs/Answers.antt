-- What the call `budget` answers: "budget and size 1 to 9", else the number.
use Rattle.refusal.specs.declared.Cause.{Cause}
use Rattle.std.specs.Prelude.{ℕ, Result}
use Rattle.refusal.specs.Checks.{answer}
use Rattle.refusal.specs.Told.{Told, told}
use Rattle.design.specs.declared.Design.{Design}
use Rattle.design.specs.Legal.{design_verdict}
use Rattle.design.specs.Budget.{budget}

unfoldable pub budget_answer : Design → Result ℕ Cause
budget_answer d = answer (design_verdict d) (budget d)

-- What is to be told: "budget .. 1 to 9", else the number
unfoldable pub budget_told : Design → Told ℕ
budget_told d = told (design_verdict d) (budget d)
