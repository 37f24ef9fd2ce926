-- `values::slopes::segment_start` meets its contract: the segments of the top a bits end below 2^(w+1).
use native.Mathlib.Omega.{arith}
use Rattle.values.specs.Slopes.{segment_start}
use Rattle.values.proofs.Bounds.{segment-small, width_small}
use Rattle.values.proofs.slopes.segment_start.Goals as goal

pub overflow_mul-result : goal.overflow_mul-result
overflow_mul-result c = rw c.pow2-2.ensures (omega (arith, segment-small _ _ _ c.requires))

pub overflow_add-result : goal.overflow_add-result
overflow_add-result c =
    let fit = c.requires in
    rw (c.pow2.ensures, c.pow2-2.ensures) (omega (arith, segment-small _ _ _ fit, width_small _ _ _ fit))

pub returns : goal.returns
unfolding segment_start
returns c = rw (c.pow2.ensures, c.pow2-2.ensures)
