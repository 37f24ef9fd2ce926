-- What inner calls may count on. Their callers are proved to see to it.
use Rattle.std.specs.Prelude.{ℕ, ◌+◌, ◌*◌, ◌^◌, ◌≤◌, ◌<◌}
use Rattle.values.specs.declared.rows.Row.{Row}
use Rattle.values.specs.Rows.{Lawful}
use Rattle.values.specs.Room.{Room, highest_degree, widest_word, finest_unit}
use Rattle.values.specs.Newton.{newton_sum}

-- X = 2^w + x of an input word x of w bits
pub record InRange (w X : ℕ) : Type 0 where
  pub low : 2 ^ w ≤ X
  pub high : X < 2 ^ w * 2

-- The exact value is asked for, with s fraction bits, for some input word.
pub record FloorInput (row : Row) (w s X : ℕ) : Type 0 where
  pub lawful : Lawful row
  pub room : Room row w s
  pub range : InRange w X

-- A root is asked for, below 2^(p+1).
pub record RootInput (k p limit : ℕ) : Type 0 where
  pub k-pos : 1 ≤ k
  pub k-small : k ≤ highest_degree
  pub p-small : p ≤ finest_unit
  pub limit-small : limit < (2 ^ (p + 1)) ^ k

-- A degree whose root takes steps: of degree 1 the limit is its own root.
pub record Stepwise (k : ℕ) : Type 0 where
  pub k-low : 2 ≤ k
  pub k-small : k ≤ highest_degree

-- A step on the way to it. The power r^k need not fit.
pub record StepInput (k limit r : ℕ) : Type 0 where
  pub degree : Stepwise k
  pub r-pos : 1 ≤ r
  pub r_small : r < 2 ^ 32
  pub sum-small : newton_sum k limit r < 2 ^ 64

-- A segment is asked for: of a value A of the top a bits of an input word.
pub record SegmentInput (w a A : ℕ) : Type 0 where
  pub w-small : w ≤ widest_word
  pub a_small : a ≤ w
  pub A-small : A < 2 ^ a

-- Slopes over the segments of the top a bits are asked for.
pub record SlopeInput (row : Row) (w P a : ℕ) : Type 0 where
  pub lawful : Lawful row
  pub room : Room row w P
  pub a_small : a ≤ w
