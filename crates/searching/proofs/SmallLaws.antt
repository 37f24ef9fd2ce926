-- How large sizes, budgets and shares get while tables are chosen.
use Prim.Native.Nat.{ℕ, ◌+◌, ◌-◌, ◌*◌, ◌^◌, ◌≤◌, ◌<◌}
use native.Mathlib.Nat.{le_of_lt, le_refl, le_trans, lt_of_lt_of_le, mul-le-mul, sub-le}
use native.Mathlib.Omega.{arith}
use lib.Dec.{lit<}
use lib.Pow.{ones_lt, pow_mono, shl_lt}
use Rattle.general.proofs.Sums.{sum-bounded}
use Rattle.values.specs.Room.{widest_word, finest_unit, word_bound, slope_bound}
use Rattle.values.specs.Inputs.{SlopeInput}
use Rattle.values.specs.Slopes.{largest_spread, largest_sum}
use Rattle.values.proofs.WidthLaws.{Widths, widths-of}
use Rattle.design.specs.declared.Design.{Design}
use Rattle.design.specs.declared.legal.TableRule.{TableRule}
use Rattle.design.specs.Limits.{most_tables}
use Rattle.design.specs.Cut.{row, fraction_bits, position}
use Rattle.design.specs.Stored.{initial_count}
use Rattle.design.specs.Budget.{limit}
use Rattle.design.proofs.LegalLaws.{within}
use Rattle.design.proofs.BudgetLaws.{share_bound, largest-spread-small}
use Rattle.entries.specs.Inputs.{OffsetInput}
use Rattle.sizing.specs.Size.{initial_size, table_size}
use Rattle.sizing.proofs.SizeLaws.{
  table_bound,
  initial_bound,
  largest-input,
  table-size-is,
  size-by-small,
  initial-by-small,
}
use Rattle.searching.specs.Search.{size_before, rest_from, Begun, Open, Fitting, Least}

module _ (d : Design) (begun : Begun d) where
  pub widths : Widths d.kind d.w d.q d.g
  widths = widths-of d.kind d.w d.q d.g begun.started.widths

  pub guard-few : d.g ≤ finest_unit
  guard-few = omega (arith, widths.room.s-small)

  -- No number that no spread is below is larger than a spread can be.
  least-few : (least : ℕ) → Least d least → least ≤ slope_bound
  least-few least none_below =
      let fit : SlopeInput (row d) d.w (fraction_bits d) 1
      = record {
        lawful = widths.lawful;
        room = widths.room;
        a_small = omega
            (arith, begun.started.alpha-low, begun.started.alpha-below);
      } in
      le_trans (none_below 1 (le_refl 1) (omega (arith, begun.started.alpha-low)) (lit< tt)) (largest-spread-small (row d) d.w
      (fraction_bits d) 1 fit)

  pub rest-few : (least p : ℕ) → Least d least → rest_from d least p ≤ share_bound
  unfolding rest_from
  rest-few least p none_below =
      let all : 2 ^ (d.w - d.alpha) ≤ word_bound = pow_mono {j = widest_word} (omega (arith, widths.room.w-small)) in
      mul-le-mul (le_trans (sub-le (2 ^ (d.w - d.alpha)) (2 ^ p)) all) (least-few least none_below)

module _ (d : Design) (i : ℕ) (o : Open d i) where
  table-size-few : (j : ℕ) → j < i → table_size d j ≤ table_bound
  table-size-few j h =
      rw (table-size-is d j)
      (size-by-small _ _ _ (within d j (o.tables TableRule.SegmentBits j h) (o.tables TableRule.OffsetBits j h)).sum-high)

  pub size_few : size_before d i ≤ initial_bound + most_tables * table_bound
  unfolding size_before initial_size initial_count
  size_few =
      omega (
        arith,
        initial-by-small _ _ o.begun.started.alpha-high (widths d o.begun).room.s-small,
        sum-bounded i table_bound (table_size d) table-size-few,
        o.chosen,
        o.begun.m-high,
      )

  -- what a fitting pair adds
  module _ (a b : ℕ) (fit : Fitting d i a b) where
    pub slopes : SlopeInput (row d) d.w (fraction_bits d) a
    slopes =
        let w = widths d o.begun in
        record { lawful = w.lawful; room = w.room; a_small = omega (arith, fit.a-high, o.begun.started.alpha-below) }

    -- its offsets can be asked for
    pub widest-asked : OffsetInput (largest_sum (row d) d.w (fraction_bits d) a) b (position d i)
    widest-asked =
        largest-input (row d) d.w (fraction_bits d) a b (position d i) slopes fit.b-low
        (omega (arith, fit.left-low, o.begun.started.alpha-low, o.begun.started.alpha-below))

    pub reach_few : (2 ^ b - 1) * 2 ^ position d i < word_bound
    reach_few =
        lt_of_lt_of_le (shl_lt b (position d i) (ones_lt b))
        (pow_mono {j = widest_word} (omega (arith, fit.left-low, (widths d o.begun).room.w-small)))

    pub share-few : (2 ^ b - 1) * 2 ^ position d i * largest_spread (row d) d.w (fraction_bits d) a ≤ share_bound
    share-few = mul-le-mul (le_of_lt reach_few) (largest-spread-small (row d) d.w (fraction_bits d) a slopes)

  pub budget-few : limit d ≤ 2 ^ 38
  unfolding limit
  budget-few = pow_mono {j = 38} (omega (arith, guard-few d o.begun))
