-- `values::slopes::segment_end` meets its contract, as `segment_start` does.
use Prim.Native.Nat.{◌-◌}
use native.Mathlib.Omega.{arith}
use lib.Pow.{pow_pos}
use Rattle.values.specs.Slopes.{segment_start, segment_end}
use Rattle.values.proofs.Bounds.{segment-small, width_small}
use Rattle.values.proofs.slopes.segment_end.Goals as goal

pub overflow_add-result : goal.overflow_add-result
unfolding segment_start
overflow_add-result c =
    let fit = c.requires in
    rw (c.segment_start.ensures, c.pow2.ensures) (omega (arith, segment-small _ _ _ fit, width_small _ _ _ fit))

pub overflow_sub-result : goal.overflow_sub-result
overflow_sub-result c = rw c.pow2.ensures (omega (arith, pow_pos (c.args.w - c.args.a)))

pub returns : goal.returns
unfolding segment_end
returns c = rw (c.segment_start.ensures, c.pow2.ensures)
