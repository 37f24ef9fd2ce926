-- `searching::slopes::slopes_by_a` meets its contract: after the turn of a, both numbers of each up to a are known.
use mathlib.Core.Path.{◌≡◌}
use mathlib.Core.List.{List}
use Prim.Native.Nat.{ℕ, ◌+◌, ◌≤◌, ◌<◌}
use lib.ListN.{length, get_or}
use Rattle.values.specs.Rows.{row_of}
use Rattle.values.specs.declared.slopes.LargestSlopes.{LargestSlopes}
use Rattle.values.specs.Slopes.{largest_slopes}
use Rattle.design.specs.Limits.{most_table_bits}
use Rattle.searching.specs.Search.{no_slopes}
use Rattle.searching.proofs.slopes.slopes_by_a.Given as goal

-- those of each k below a
pub record Known (kind w P : ℕ) (slopes : List LargestSlopes) (a : ℕ) : Type 0 where
  pub long : length slopes ≡ most_table_bits
  pub low : 1 ≤ a
  pub slopes_at : (k : ℕ) → 1 ≤ k → k < a → get_or slopes k no_slopes ≡ largest_slopes (row_of kind) w P k

abbrev pub invariant-loop-a : goal.invariant-loop-a
invariant-loop-a l = Known l.kind l.w (l.q + l.g) l.slopes l.a
