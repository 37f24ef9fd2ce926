-- `values::slopes::Segments::largest` meets its contract: after n turns both numbers are the largest over the first n segments.
use mathlib.Core.Path.{◌≡◌}
use Prim.Native.Nat.{ℕ, ◌-◌, ◌^◌, ◌≤◌}
use Rattle.general.specs.Below.{largest}
use Rattle.values.specs.declared.rows.Row.{Row}
use Rattle.values.specs.Slopes.{spread, slope_sum}
use Rattle.values.proofs.slopes.Segments.largest.Given as goal

pub record Inv (row : Row) (w P a end most sum segment : ℕ) : Type 0 where
  pub spread-is : most ≡ largest segment (spread row w P a)
  pub sum_is : sum ≡ largest segment (slope_sum row w P a)
  pub within : segment ≤ end
  pub all : end ≡ 2 ^ a

abbrev pub invariant-loop-segment : goal.invariant-loop-segment
invariant-loop-segment l = Inv l.self.row l.self.w l.self.p l.self.a l.segment-end l.spread l.sum l.segment

abbrev pub decreases-loop-segment : goal.decreases-loop-segment
decreases-loop-segment l = l.segment-end - l.segment
