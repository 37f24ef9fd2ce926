-- Document 01, "Slopes and budget": budget, its limit, admitted.
use Rattle.std.specs.Prelude.{Bool, not, ℕ, ◌+◌, ◌-◌, ◌*◌, ◌^◌, ◌<◌, ltb}
use Rattle.general.specs.Below.{sum_below}
use Rattle.refusal.specs.declared.Cause.{Cause}
use Rattle.refusal.specs.Checks.{Check, ◌↝◌}
use Rattle.values.specs.Slopes.{largest_spread}
use Rattle.design.specs.declared.Design.{Design}
use Rattle.design.specs.Legal.{Legal}
use Rattle.design.specs.Cut.{a_of, b_of, row, fraction_bits, position}

-- "D_i = (2^(b_i) - 1)·2^(p_i)"
unfoldable pub reach : Design → ℕ → ℕ
reach d i = (2 ^ b_of d i - 1) * 2 ^ position d i

-- "D_i times the largest Hi - Lo over all A_i"
unfoldable pub table_budget : Design → ℕ → ℕ
table_budget d i = reach d i * largest_spread (row d) d.w (fraction_bits d) (a_of d i)

-- "the sum over i of .., plus (m+2)·2^17"
unfoldable pub budget : Design → ℕ
budget d = sum_below d.m (table_budget d) + (d.m + 2) * 2 ^ 17

unfoldable pub limit : Design → ℕ
limit d = 2 ^ (d.g + 17)

unfoldable pub within_limit : Design → Bool
within_limit d = ltb (budget d) (limit d)

-- 11, "not admitted"
unfoldable pub admitted_check : Design → Check
admitted_check d = not (within_limit d) ↝ Cause.NotAdmitted

-- "A legal design is **admitted** when the budget is less than 2^(g+17)."
pub record Admitted (d : Design) : Type 0 where
  pub legal : Legal d
  pub within : budget d < limit d
