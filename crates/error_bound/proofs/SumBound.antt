-- The sum over filled tables lies within the budget of the exact value, for every legal design and input word. In units of 2^-18 table
-- units; 2^(g-1) of the sum is the half unit that the initial entry adds so that the word can be cut off.
use mathlib.Core.Path.{◌≡◌, refl, sym}
use mathlib.Core.Bool.{Bool, true, false, cond}
use Prim.Native.Nat.{ℕ, zero, suc, ◌+◌, ◌-◌, ◌*◌, ◌/◌, ◌^◌, ◌≤◌, ◌<◌}
use native.Mathlib.Nat.{le_refl, le_step, mul-le-mul_left, add-sub_of_le}
use native.Mathlib.Omega.{arith}
use lib.IntN.{ℤ}
use Rattle.general.specs.Below.{sum_below}
use Rattle.values.specs.Slopes.{spread}
use Rattle.values.specs.Exact.{AtMost, MoreThan}
use Rattle.values.proofs.Bounds.{ordered}
use Rattle.design.specs.declared.Design.{Design}
use Rattle.design.specs.Cut.{a_of, row, fraction_bits, segment_word, offset_word, initial_word}
use Rattle.design.specs.Budget.{reach, table_budget, budget}
use Rattle.design.proofs.LegalLaws.{Limits, slopewise}
use Rattle.design.proofs.CutLaws.{segment-word-lt}
use Rattle.design.proofs.BudgetLaws.{spread-le-largest}
use Rattle.entries.specs.Entries.{value_at, end_values, initial_at, hi_at, lo_at, offset_at}
use Rattle.error_bound.proofs.Enclosed.{above-start, above-end, below-start, below_end}
use Rattle.error_bound.proofs.Path.{first, last, done, left, done-left, course, interval_start, interval_end, slopes-hold}
use Rattle.error_bound.proofs.Totals.{added, taken}
use Rattle.error_bound.proofs.Offsets.{offset-low, offset-high}

-- What one table contributes, an offset that adds `plus` and takes `minus`, and `share` of the budget.
record Table (high low done left plus minus share : ℕ) : Type 0 where
  from-below : 2 ^ 19 * plus + 4 * high * left ≤ 4 * low * done + 2 * share + 2 ^ 19 * minus
  from-above : 4 * high * done + 2 ^ 19 * minus ≤ 4 * low * left + 2 * share + 2 ^ 19 * (plus + 1)

-- With gap for Hi - Lo, 2·(Hi·done - Lo·left) is (Hi+Lo)·(done - left) + (Hi-Lo)·(done + left).
table : (high low gap done left plus minus share : ℕ) → high ≡ low + gap → gap * (done + left) ≤ share
    → 2 ^ 18 * plus + (high + low) * left ≤ (high + low) * done + 2 ^ 18 * minus
    → (high + low) * done + 2 ^ 18 * minus ≤ 2 ^ 18 * (plus + 1) + (high + low) * left
    → Table high low done left plus minus share
table high low gap done left plus minus share e within at_least_lem at_most =
    let at-least' = rw e at at_least_lem in
    let at-most' = rw e at at_most in
    rw e (record { from-below = omega arith; from-above = omega arith })

-- All tables together
module _ (high low done left plus minus share : ℕ → ℕ) where
  abbrev Tables : ℕ → Type 0
  Tables n = (i : ℕ) → i < n → Table (high i) (low i) (done i) (left i) (plus i) (minus i) (share i)

  sum-below : (n : ℕ) → Tables n → 2 ^ 19 * sum_below n plus + sum_below n (λ i. 4 * high i * left i)
      ≤ sum_below n (λ i. 4 * low i * done i) + 2 * sum_below n share + 2 ^ 19 * sum_below n minus
  unfolding sum_below
  sum-below zero tables = omega arith
  sum-below (suc n) tables = omega (arith, sum-below n (λ i h. tables i (le_step h)), (tables n (le_refl _)).from-below)

  sum-above : (n : ℕ) → Tables n → sum_below n (λ i. 4 * high i * done i) + 2 ^ 19 * sum_below n minus
      ≤ sum_below n (λ i. 4 * low i * left i) + 2 * sum_below n share + 2 ^ 19 * (sum_below n plus + n)
  unfolding sum_below
  sum-above zero tables = omega arith
  sum-above (suc n) tables = omega (arith, sum-above n (λ i h. tables i (le_step h)), (tables n (le_refl _)).from-above)

-- Half the sum of two bounds, with the initial entry (M+1+m)/2 + half: `lows` stands for the sum of 4·Lo·done or 4·Lo·left, `highs` for
-- that of 4·Hi·left or 4·Hi·done.
module _ (start end half m share n lows highs plus minus : ℕ) where
  half-low : 2 ^ 18 * start + lows < n → 2 ^ 18 * end ≤ n + highs → 2 ^ 19 * plus + highs ≤ lows + 2 * share + 2 ^ 19 * minus
      → 2 ^ 18 * ((start + end + 1 + m) / 2 + half + plus) < n + 2 ^ 18 * minus + 2 ^ 18 * half + (share + (m + 2) * 2 ^ 17)
  half-low above-start above-end sums = omega arith

  half_high : n ≤ 2 ^ 18 * (start + 1) + highs → n + lows < 2 ^ 18 * (end + 1)
      → highs + 2 ^ 19 * minus ≤ lows + 2 * share + 2 ^ 19 * (plus + m)
      → n + 2 ^ 18 * minus + 2 ^ 18 * half < 2 ^ 18 * ((start + end + 1 + m) / 2 + half + plus) + (share + (m + 2) * 2 ^ 17)
  half_high below-start below_end sums = omega arith

-- The offset that x looks up in table i, where the tables are filled
unfoldable pub written_offset : Design → ℕ → ℕ → ℤ
written_offset d x i = offset_at d i (segment_word d i x) (offset_word d i x)

module _ (d : Design) (l : Limits d) (x : ℕ) (x_lt : x < 2 ^ d.w) where
  -- each table by itself
  share-enough : (i : ℕ) → i < d.m → let A = segment_word d i x in
      (hi_at d i A - lo_at d i A) * (done d x i + left d x i) ≤ table_budget d i
  unfolding hi_at lo_at spread table_budget
  share-enough i h =
      rw (done-left d x i)
      (omega (
        arith,
        mul-le-mul_left (reach d i)
            (spread-le-largest (row d) d.w (fraction_bits d) (a_of d i) (segment_word d i x) (segment-word-lt d l i x h x_lt)),
      ))

  ordered_at : (i : ℕ) → i < d.m → lo_at d i (segment_word d i x) ≤ hi_at d i (segment_word d i x)
  unfolding hi_at lo_at
  ordered_at i h =
      (ordered (row d) d.w (fraction_bits d) (a_of d i) (segment_word d i x) (slopewise d l i h) (segment-word-lt d l i x h x_lt)).1

  table-of : (i : ℕ) → i < d.m → let A = segment_word d i x in
      Table (hi_at d i A) (lo_at d i A) (done d x i) (left d x i) (added (written_offset d x i)) (taken (written_offset d x i))
      (table_budget d i)
  unfolding written_offset
  table-of i h =
      table _ _ _ _ _ _ _ _ (sym (add-sub_of_le (ordered_at i h))) (share-enough i h) (offset-low d l x i h) (offset-high d l x i h)

  -- M is the sum of the values at both ends, whichever comes first.
  both_ends : value_at d (first d x) + value_at d (last d x) ≡ end_values d (initial_word d x)
  unfolding end_values interval_start interval_end
  both_ends = go (row d).rising (interval_start d x) (interval_end d x)
    where
      go : (rising : Bool) (s e : ℕ) → value_at d (cond rising s e) + value_at d (cond rising e s) ≡ value_at d s + value_at d e
      go true s e = refl
      go false s e = omega arith

  abbrev plus : ℕ
  plus = sum_below d.m (λ i. added (written_offset d x i))

  abbrev minus : ℕ
  minus = sum_below d.m (λ i. taken (written_offset d x i))

  -- A number above the exact value at X is not much below the sum,
  pub sum_low : (n : ℕ) → MoreThan (row d) d.w (fraction_bits d + 18) (2 ^ d.w + x) n
      → 2 ^ 18 * (initial_at d (initial_word d x) + plus) < n + 2 ^ 18 * minus + 2 ^ 18 * 2 ^ (d.g - 1) + budget d
  unfolding initial_at budget value_at
  sum_low n h =
      let bounds = slopes-hold d l x x_lt in
      rw (← both_ends)
      (half-low _ _ (2 ^ (d.g - 1)) d.m _ n _ _ plus minus
      (above-start bounds (course d l x) n h)
      (above-end bounds (course d l x) n h)
      (sum-below _ _ _ _ _ _ _ d.m table-of))

  -- and one that is at most the exact value is not much above it.
  pub sum-high : (n : ℕ) → AtMost (row d) d.w (fraction_bits d + 18) (2 ^ d.w + x) n
      → n + 2 ^ 18 * minus + 2 ^ 18 * 2 ^ (d.g - 1) < 2 ^ 18 * (initial_at d (initial_word d x) + plus) + budget d
  unfolding initial_at budget value_at
  sum-high n h =
      let bounds = slopes-hold d l x x_lt in
      rw (← both_ends)
      (half_high _ _ (2 ^ (d.g - 1)) d.m _ n _ _ plus minus
      (below-start bounds (course d l x) n h)
      (below_end bounds (course d l x) n h)
      (sum-above _ _ _ _ _ _ _ d.m table-of))
