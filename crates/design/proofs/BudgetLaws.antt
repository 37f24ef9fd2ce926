-- How large spreads and budgets get.
use Prim.Native.Nat.{ℕ, ◌^◌, ◌≤◌, ◌<◌, ◌*◌}
use native.Mathlib.Nat.{le_of_lt, lt_of_lt_of_le, mul-le-mul}
use native.Mathlib.Omega.{arith}
use lib.Pow.{ones_lt, pow_mono, shl_lt}
use Rattle.general.proofs.Sums.{largest-above, largest-bounded}
use Rattle.values.specs.declared.rows.Row.{Row}
use Rattle.values.specs.Room.{widest_word, word_bound, slope_bound}
use Rattle.values.specs.Inputs.{SlopeInput}
use Rattle.values.specs.Slopes.{spread, largest_spread}
use Rattle.values.proofs.Bounds.{spread-small}
use Rattle.design.specs.declared.Design.{Design}
use Rattle.design.specs.Cut.{a_of, b_of, row, fraction_bits, position}
use Rattle.design.specs.Budget.{reach, table_budget}
use Rattle.design.proofs.LegalLaws.{Limits, slopewise, bits-end}

-- So the largest spread is at least the spread over each segment,
pub spread-le-largest : (row : Row) (w P a A : ℕ) → A < 2 ^ a → spread row w P a A ≤ largest_spread row w P a
unfolding largest_spread
spread-le-largest row w P a A = largest-above (2 ^ a) (spread row w P a) A

-- and no more than any spread can be.
pub largest-spread-small : (row : Row) (w P a : ℕ) → SlopeInput row w P a → largest_spread row w P a ≤ slope_bound
unfolding largest_spread
largest-spread-small row w P a fit = largest-bounded (2 ^ a) slope_bound (spread row w P a) (λ A h. spread-small row w P a A fit h)

-- What a table adds to the budget is at most `share_bound`.
abbrev pub share_bound : ℕ
share_bound = word_bound * slope_bound

module _ (d : Design) (l : Limits d) (i : ℕ) (h : i < d.m) where
  -- A table's bits lie among the w bits of x,
  pub reach-small : reach d i < word_bound
  unfolding reach
  reach-small =
      lt_of_lt_of_le (shl_lt (b_of d i) (position d i) (ones_lt (b_of d i)))
      (pow_mono {j = widest_word} (omega (arith, bits-end d l i h, l.widths.room.w-small)))

  -- so what it adds is the product of two bounds.
  pub table-budget-small : table_budget d i ≤ share_bound
  unfolding table_budget
  table-budget-small =
      mul-le-mul (le_of_lt reach-small) (largest-spread-small (row d) d.w (fraction_bits d) (a_of d i) (slopewise d l i h))
