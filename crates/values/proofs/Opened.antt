-- To unfold `values-opened` is to unfold every definition of this crate, so that the checker computes with them on numbers.
use Rattle.general.specs.Below.{largest}
use Rattle.values.specs.Rows.{rows, kinds, row_of}
use Rattle.values.specs.Exact.{num, den, number_side, value_side}
use Rattle.values.specs.Floor.{root_from, scaled, floor_value, is_whole}
use Rattle.values.specs.Slopes.{segment_start, segment_end, ceiling_value, hi, lo, spread, largest_spread, slope_sum, largest_sum}
use Rattle.values.specs.Widths.{width_checks, limits_of}
use Rattle.values.specs.Parts.{divisor_part, number_part, value_part}
use Rattle.values.specs.Faithful.{is_faithful, is_nearest, is_too_low}
use Rattle.values.specs.Value.{word_check, value_verdict, value_of}

unfoldable pub values-opened : Unit {0}
unfolding
    rows kinds row_of num den number_side value_side divisor_part number_part value_part is_faithful is_nearest is_too_low root_from scaled floor_value
    is_whole segment_start segment_end ceiling_value hi lo spread largest largest_spread slope_sum largest_sum limits_of width_checks word_check value_verdict value_of
values-opened = tt
