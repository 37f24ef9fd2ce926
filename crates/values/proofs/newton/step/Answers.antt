-- `values::newton::step` meets its contract: the step of degree 2.
use mathlib.Core.Path.{◌≡◌, refl}
use Prim.Native.Nat.{ℕ, ◌+◌, ◌/◌, ◌^◌, ◌<◌}
use native.Mathlib.Omega.{arith}
use Rattle.values.specs.Inputs.{StepInput}
use Rattle.values.specs.Newton.{newton_sum, newton_step}
use Rattle.values.proofs.NewtonLaws.{first-power}
use Rattle.values.proofs.newton.step.Goals as goal

module _ (k limit r : ℕ) (input : StepInput k limit r) where
  two : k ≡ 2
  two = omega (arith, input.degree)

  sum_is : r + limit / r ≡ newton_sum k limit r
  unfolding newton_sum
  sum_is = let q : limit / r ^ 1 ≡ limit / r = rw (first-power r) refl in rw two (omega (arith, q))

  quadratic : (r + limit / r) / 2 ≡ newton_step k limit r
  unfolding newton_step
  quadratic = rw (sum_is, two)

  sum_fits : r + limit / r < 2 ^ 64
  sum_fits = rw sum_is input.sum-small

pub overflow_add-result : goal.overflow_add-result
overflow_add-result c = record { fits = sum_fits _ _ _ c.requires }

pub returns : goal.returns
returns c = quadratic _ _ _ c.requires
