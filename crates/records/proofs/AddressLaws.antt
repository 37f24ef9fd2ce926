-- Document 02, 20: "never so within 01's limits, where a set takes at most 61,440".
use Prim.Native.Nat.{ℕ, zero, suc, ◌+◌, ◌-◌, ◌^◌, ◌≤◌, ◌<◌}
use native.Mathlib.Nat.{le_refl, le_step}
use native.Mathlib.Omega.{arith}
use native.Mathlib.Decide.{dec_lt}
use lib.Pow.{pow_mono}
use Rattle.general.specs.Below.{sum_below}
use Rattle.general.proofs.Sums.{sum-bounded}
use Rattle.values.specs.Widths.{limits_of}
use Rattle.design.specs.declared.Design.{Design}
use Rattle.design.specs.Limits.{most_initial_bits, most_in_table, most_offsets}
use Rattle.design.specs.Cut.{b_of, position}
use Rattle.design.specs.Stored.{initial_count, table_start, offset_total, offset_count}
use Rattle.design.specs.Legal.{Legal}
use Rattle.design.proofs.LegalLaws.{Limits, limits}
use Rattle.design.proofs.StoredLaws.{count_small}
use Rattle.records.specs.SetBytes.{entry_count, byte_count}

-- A sum of n numbers that are not 0 is not below n.
sum-some : (n : ℕ) (f : ℕ → ℕ) → ((i : ℕ) → i < n → 1 ≤ f i) → n ≤ sum_below n f
unfolding sum_below
sum-some zero f some = omega arith
sum-some (suc n) f some = omega (arith, sum-some n f (λ i h. some i (le_step h)), some n (le_refl _))

module _ (d : Design) (l : Limits d) where
  -- Each table reads a bit at least of those that the initial entries do not read,
  tables-few : d.m + d.alpha ≤ (limits_of d.kind).w.1
  unfolding position
  tables-few = omega (arith, sum-some d.m (b_of d) (λ i h. (l.table i h).b-low), l.cut, l.alpha-below, l.widths.within.w-high)

  -- so a set with as many initial entries as may be has a table less than may be, and a table has no more offsets than half of those.
  entries-few : entry_count d ≤ 2 ^ (most_initial_bits - 1) + most_offsets
  unfolding limits_of entry_count initial_count offset_total table_start
  entries-few =
      let offsets = sum-bounded d.m most_in_table (offset_count d) (count_small d l) in
      elim (dec_lt d.alpha most_initial_bits) [
        | yes fewer ↦ omega (arith, pow_mono {i = d.alpha} {j = most_initial_bits - 1} (omega arith), l.m-high)
        | no most ↦ omega (arith, pow_mono {j = most_initial_bits} l.alpha-high, tables-few)
      ]

-- "at most 61,440"
pub bytes-few : (d : Design) → Legal d → byte_count d ≤ 61440
unfolding byte_count
bytes-few d legal = omega (arith, entries-few d (limits d legal))
