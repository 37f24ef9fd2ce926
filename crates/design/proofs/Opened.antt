-- To unfold `design-opened` is to unfold every definition of this crate and of the values.
use Rattle.general.specs.Below.{sum_below, some_below}
use Rattle.values.proofs.Opened.{values-opened}
use Rattle.design.specs.Cut.{tables, pair_at, position, initial_word, segment_word, offset_word}
use Rattle.design.specs.Stored.{
  initial_count,
  offset_count,
  table_start,
  offset_total,
  offset_place,
  stored_count,
  stored_index,
  offset_from,
  stored_word,
  stored_place,
}
use Rattle.design.specs.Legal.{breaks, table_breaks, cut_checks, design_checks, design_verdict}
use Rattle.design.specs.Budget.{reach, table_budget, budget, limit, within_limit, admitted_check}
use Rattle.design.specs.Answers.{budget_answer}

unfoldable pub design-opened : Unit {0}
unfolding
    values-opened tables pair_at sum_below position initial_word segment_word offset_word initial_count stored_count stored_index offset_from
    stored_word offset_count table_start offset_total stored_place
    offset_place some_below breaks table_breaks cut_checks design_checks design_verdict reach table_budget budget limit within_limit
    admitted_check budget_answer
design-opened = tt
