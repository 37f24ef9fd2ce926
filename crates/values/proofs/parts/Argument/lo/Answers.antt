-- `values::parts::Argument::lo` meets its contract: a floor value is small, so nothing wraps.
use mathlib.Core.Path.{◌≡◌, ap, ◌∙◌}
use Prim.Native.Nat.{◌<◌}
use native.Mathlib.Omega.{arith}
use lib.IntN.{nat_abs}
use Rattle.values.specs.declared.TableUnits.{TableUnits}
use Rattle.values.specs.Room.{floor_bound}
use Rattle.values.specs.Floor.{floor_value}
use Rattle.values.specs.Slopes as Slopes
use Rattle.values.proofs.Bounds.{step_small, step-pos, floor-small}
use Rattle.values.proofs.parts.Argument.lo.Goals as goal
use Rattle.values.proofs.parts.Argument.lo.Goals.{After-count}

-- the floor value as a plain number
counted : (c : After-count) → let a = c.args in c.count.result ≡ floor_value a.self.row a.self.w a.p a.self.x
counted c = c.count.ensures ∙ ap (λ (u : TableUnits). nat_abs u.0) c.floor_value.ensures

pub returns : goal.returns
unfolding Slopes.lo
returns c = rw (counted c.before.before)

pub count-requires : goal.count-requires
count-requires c = rw c.floor_value.ensures tt

few : (c : After-count) → c.count.result < floor_bound
few c = rw (counted c) (floor-small _ _ _ _ c.requires)

pub overflow_mul-result : goal.overflow_mul-result
overflow_mul-result c = omega (arith, few c)

pub overflow_mul-result-2 : goal.overflow_mul-result-2
overflow_mul-result-2 c = omega (arith, step_small _ _ _ _ c.requires)

pub nonzero_div-result : goal.nonzero_div-result
nonzero_div-result c = step-pos _ _ _ _ c.requires
