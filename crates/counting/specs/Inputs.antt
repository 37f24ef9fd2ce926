-- What inner calls may count on, and what they promise one another.
use Rattle.std.specs.Prelude.{cond, ℕ, ◌+◌, ◌≤◌}
use Rattle.values.specs.Room.{word_bound}
use Rattle.counting.specs.declared.Class.{Class}
use Rattle.counting.specs.declared.Counts.{Counts}
use Rattle.counting.specs.Count.{is_class}

-- Counts of no more words than the widest inputs make
pub record Few (counts : Counts) : Type 0 where
  pub outside-few : counts.outside ≤ word_bound
  pub nearest-few : counts.nearest ≤ word_bound
  pub faithful-few : counts.faithful ≤ word_bound
  pub low-few : counts.low ≤ word_bound
  pub high-few : counts.high ≤ word_bound

-- The counts with one word more, by its class
unfoldable pub with_class : Counts → Class → Counts
with_class counts class =
    record {
      outside = counts.outside + one_if Class.Outside;
      nearest = counts.nearest + one_if Class.Nearest;
      faithful = counts.faithful + one_if Class.Faithful;
      low = counts.low + one_if Class.Low;
      high = counts.high + one_if Class.High;
    }
  where
    one_if : Class → ℕ
    one_if counted = cond (is_class class counted) 1 0
