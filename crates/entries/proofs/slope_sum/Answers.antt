-- `entries::slope_sum` meets its contract: the slopes of a segment are small.
use native.Mathlib.Omega.{arith}
use Rattle.values.specs.Slopes.{slope_sum}
use Rattle.values.proofs.Bounds.{slopes-small}
use Rattle.entries.proofs.slope_sum.Goals as goal

pub returns : goal.returns
unfolding slope_sum
returns c = rw c.bounds_of-bounds.ensures

pub overflow_add-result : goal.overflow_add-result
overflow_add-result c = rw c.bounds_of-bounds.ensures (omega (arith, slopes-small _ _ _ _ _ c.args.segments.fit c.requires))
