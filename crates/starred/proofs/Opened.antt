-- To unfold `calls-opened` is to unfold every definition that the calls over a set promise by: the fill, the evaluation, the
-- check and the counts.
use Rattle.general.specs.Below.{list_below, count_below}
use Rattle.sizing.proofs.Opened.{sizing-opened}
use Rattle.tables.proofs.Opened.{tables-opened}
use Rattle.filling.specs.Fill.{
  fill_verdict,
  initial_entries,
  table_entries,
  offsets_below,
  offset_entries,
  initial_after,
  offsets_after,
  stored_offset,
}
use Rattle.evaluating.specs.Evaluate.{word_checks, evaluate_verdict, evaluate_answer, evaluate_told}
use Rattle.evaluating.specs.Batch.{
  output_check,
  room_verdict,
  batch_below,
  place_verdict,
  batch_answer,
  checks_below,
  batch_verdict,
  output_after,
  passing,
  batch_told,
}
use Rattle.checking.specs.Check.{faithful_at, finding_below, check_verdict, check_answer, check_told}
use Rattle.counting.specs.Count.{class_of, class_at, count_of, counts_below, count_verdict, count_answer, count_told}

unfoldable pub calls-opened : Unit {0}
unfolding
    sizing-opened tables-opened fill_verdict list_below initial_entries stored_offset table_entries offsets_below offset_entries
    initial_after offsets_after word_checks evaluate_verdict evaluate_answer evaluate_told output_check room_verdict batch_below place_verdict
    batch_answer checks_below batch_verdict output_after passing batch_told faithful_at finding_below check_verdict check_answer check_told count_below
    class_of class_at count_of counts_below count_verdict count_answer count_told
calls-opened = tt
