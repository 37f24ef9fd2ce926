-- What inner calls may count on. Their callers are proved to see to it.
use Rattle.std.specs.Prelude.{ℕ, ◌+◌, ◌*◌, ◌/◌, ◌^◌, ◌≤◌, ◌<◌}
use Rattle.values.specs.Room.{widest_word, product_bound}
use Rattle.design.specs.Limits.{least_initial_bits}

-- What belongs to a word B of a table with b bits is asked for: j is then odd, and never 0.
pub record WordInput (b B : ℕ) : Type 0 where
  pub b-low : 1 ≤ b
  pub b-small : b ≤ widest_word
  pub B-lt : B < 2 ^ b

-- How large (Hi+Lo)·|j|·2^p and T get: |j|·2^p is below 2^(w-alpha), and alpha is not below `least_initial_bits`.
abbrev pub reach_bound : ℕ
reach_bound = product_bound / 2 ^ least_initial_bits

abbrev pub offset_bound : ℕ
offset_bound = reach_bound / 2 ^ 18

-- Offsets of a segment are asked for: Hi + Lo and b are not 0, so that j is odd and no product is 0, and the largest product that its
-- slopes and its table's b and p can lead to is small.
pub record OffsetInput (slopes b p : ℕ) : Type 0 where
  pub b-low : 1 ≤ b
  pub slopes-low : 1 ≤ slopes
  pub bits : b + p ≤ widest_word
  pub small : slopes * 2 ^ (b + p) ≤ reach_bound
