-- What inner calls may count on, which their callers are proved to see to, and what they promise one another.
use Rattle.std.specs.Prelude.{◌≡◌, List, ℕ, ◌+◌, ◌-◌, ◌^◌, ◌≤◌, ◌<◌, ℤ, pos, ◌+ℤ◌}
use Rattle.std.specs.Int.Signed.{mag}
use Rattle.general.specs.Below.{signed_sum}
use Rattle.design.specs.declared.Design.{Design}
use Rattle.design.specs.Limits.{most_offsets}
use Rattle.design.specs.Cut.{b_of, initial_word, offset_word}
use Rattle.design.specs.Stored.{initial_count, offset_total}
use Rattle.design.specs.Legal.{Legal}
use Rattle.tables.specs.declared.lookups.Lookup.{Lookup}
use Rattle.tables.specs.declared.runs.Run.{Run}
use Rattle.tables.specs.Sum.{offset_for}

-- A legal design with tables, here their lengths, that are long enough for it
pub record Usable (d : Design) (initial offsets : ℕ) : Type 0 where
  pub legal : Legal d
  pub initial-long : initial_count d ≤ initial
  pub offsets-long : offset_total d ≤ offsets

-- Two words of one interval
pub record SameInterval (d : Design) (near x : ℕ) : Type 0 where
  pub near_word : near < 2 ^ d.w
  pub word : x < 2 ^ d.w
  pub same : initial_word d near ≡ initial_word d x

-- A lookup whose numbers are small: it shifts by fewer bits than a word of the machine has and begins among the offsets.
pub record Small (lookup : Lookup) : Type 0 where
  pub shift_small : lookup.shift < 32
  pub b-small : lookup.b < 32
  pub position-small : lookup.position < 32
  pub start_small : lookup.start ≤ most_offsets

-- A sum with the offsets of the tables from 1 on, which words that differ in B_0 alone have in common
unfoldable pub sum_above : Design → ℤ → List ℤ → ℕ → ℤ
sum_above d sum offsets x = sum +ℤ signed_sum (d.m - 1) (λ i. offset_for d offsets x (i + 1))

-- A run: 2^(b_0) words that differ in B_0 alone, the first with B_0 = 0. `above` is their Y without table 0.
pub record RunOf (d : Design) (offsets : List ℤ) (run : Run) : Type 0 where
  pub interval : SameInterval d run.near run.start
  pub starts : offset_word d 0 run.start ≡ 0
  pub size_is : run.size ≡ 2 ^ b_of d 0
  pub above-is : run.above.0 ≡ sum_above d (pos run.entry) offsets run.start
  pub above-small : mag run.above.0 ≤ 2 ^ 40
