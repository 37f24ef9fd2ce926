-- Designs of which the same is read get the same answers. Every definition comes down to the six numbers and to the pairs below m.
use mathlib.Core.Path.{◌≡◌, refl, ap₂, fun_ext}
use mathlib.Core.List.{List, ◌++◌}
use Prim.Native.Nat.{ℕ, zero, suc}
use lib.IntN.{ℤ}
use Rattle.design.specs.declared.Pair.{Pair}
use Rattle.design.specs.declared.Design.{Design}
use Rattle.design.specs.Cut.{tables, pair_at, a_of, b_of, position, initial_word, segment_word, offset_word}
use Rattle.design.specs.Stored.{
  initial_count,
  offset_count,
  table_start,
  offset_total,
  offset_place,
  stored_count,
  stored_index,
  offset_from,
  stored_word,
  stored_place,
}
use Rattle.design.specs.Same.{Same}
use Rattle.design.specs.Legal.{table_breaks, cut_checks, design_checks, design_verdict}
use Rattle.design.specs.Budget.{reach, table_budget, budget, limit, within_limit, admitted_check}
use Rattle.design.specs.Answers.{budget_answer, budget_told}
use Rattle.design.proofs.SameLaws.{with-pairs, only-pairs}
use Rattle.entries.specs.Entries.{value_at, end_values, initial_at, hi_at, lo_at, offset_at}
use Rattle.sizing.specs.Size.{size_verdict, size_answer, size_told}
use Rattle.sizing.proofs.SizeLaws.{size_same}
use Rattle.tables.specs.Sum.{offset_for, sum_at, sum_outside, word_of, word_at}
use Rattle.tables.specs.Set.{tables_check, set_checks}
use Rattle.filling.specs.Fill.{
  fill_verdict,
  initial_entries,
  table_entries,
  offsets_below,
  offset_entries,
  initial_after,
  offsets_after,
  stored_offset,
}
use Rattle.evaluating.specs.Evaluate.{word_checks, evaluate_verdict, evaluate_answer, evaluate_told}
use Rattle.evaluating.specs.Batch.{room_verdict, place_verdict, batch_answer, batch_verdict, batch_told, output_after}
use Rattle.checking.specs.Check.{faithful_at, check_verdict, check_answer, check_told}
use Rattle.counting.specs.Count.{class_of, class_at, count_of, counts_below, count_verdict, count_answer, count_told}
use Rattle.encoding.specs.DesignBytes.{design_bytes}
use Rattle.lines.specs.declared.Slot.{Slot}
use Rattle.lines.specs.Slots.{line_count, table_of, offset_slot, slot_of}
use Rattle.lines.specs.Lines.{frame_head, entry_over, frame_of, line_at, set_lines}
use Rattle.writing.specs.Write.{number_check, asked_checks, write_verdict, write_answer, buffer_after, write_told}
use Rattle.records.specs.SetBytes.{entry_count, byte_count, set_bytes, set_record, set_records, bytes_check, record_set_checks}
use Rattle.record_writing.specs.WriteRecord.{hex_number_check, hex_write_verdict, hex_write_answer, record_buffer_after, hex_write_told}
use Rattle.record_reading.specs.ReadRecord.{hex_finished, hex_verdict_on, hex_after, hex_answer}
use Rattle.storage.specs.Unread.{SameAnswers}

-- What lies between the answers and what they read of a design
unfoldable opened : Unit {0}
unfolding
    pair_at position initial_word segment_word offset_word initial_count stored_count stored_index offset_from stored_word offset_count table_start
    offset_total stored_place offset_place stored_offset
    table_breaks cut_checks design_checks design_verdict reach table_budget budget limit within_limit budget_answer size_verdict size_answer
    value_at end_values initial_at hi_at lo_at offset_at offset_for sum_at sum_outside word_of word_at
    tables_check set_checks admitted_check fill_verdict initial_entries table_entries offset_entries initial_after offsets_after
    word_checks evaluate_verdict evaluate_answer room_verdict place_verdict batch_answer output_after faithful_at check_verdict check_answer
    line_count table_of offset_slot slot_of set_lines number_check write_verdict write_answer buffer_after
    budget_told size_told evaluate_told batch_verdict batch_told check_told write_told
    class_of class_at count_of counts_below count_verdict count_answer count_told
    entry_count byte_count set_bytes set_record set_records bytes_check record_set_checks
    hex_number_check hex_write_verdict hex_write_answer record_buffer_after hex_write_told hex_finished hex_verdict_on hex_after hex_answer
opened = tt

-- Those of them that a rewrite has to be told to look into
ruleset insides = (
  a_of,
  b_of,
  stored_count,
  offset_count,
  table_breaks,
  table_budget,
  initial_at,
  offset_for,
  place_verdict,
  word_at,
  faithful_at,
  class_at,
  slot_of,
)

module _ (d e : Design) (s : Same d e) where
  -- how many entries and lines there are
  pub initial-count-same : initial_count d ≡ initial_count e
  unfolding initial_count
  initial-count-same = rw s.alpha

  pub offset-total-same : offset_total d ≡ offset_total e
  unfolding opened
  offset-total-same = only-pairs (λ e. offset_total d ≡ offset_total e) d e s (λ pairs t. rw (t, insides))

  pub line-count-same : line_count d ≡ line_count e
  unfolding line_count
  line-count-same = rw (initial-count-same, offset-total-same)

  -- what a line holds, and its head
  pub slot_same : (n : ℕ) → slot_of d n ≡ slot_of e n
  unfolding opened
  slot_same n = only-pairs (λ e. slot_of d n ≡ slot_of e n) d e s (λ pairs t. rw (t, insides))

  pub head-same : (slot : Slot) → frame_head d slot ≡ frame_head e slot
  unfolding frame_head design_bytes
  head-same Slot.Design = only-pairs (λ e. design_bytes d ≡ design_bytes e) d e s (λ pairs t. rw t)
  head-same (Slot.Initial index) = refl
  head-same (Slot.Offset table index place) = refl
  head-same (Slot.End before) = refl

  -- what its entry is refused for
  pub over-same : (slot : Slot) (number : ℕ) → entry_over d slot number ≡ entry_over e slot number
  unfolding entry_over
  over-same Slot.Design number = refl
  over-same (Slot.Initial index) number = rw (s.q, s.g)
  over-same (Slot.Offset table index place) number = refl
  over-same (Slot.End before) number = refl

  asked-same : (initial : List ℕ) (offsets : List ℤ) (n : ℕ)
      → asked_checks d (slot_of d n) initial offsets ≡ asked_checks e (slot_of e n) initial offsets
  unfolding asked_checks
  asked-same initial offsets n = rw (slot_same n, over-same (slot_of e n))

  pub line_same : (initial : List ℕ) (offsets : List ℤ) (n : ℕ) → line_at d initial offsets n ≡ line_at e initial offsets n
  unfolding line_at frame_of
  line_same initial offsets n = rw (slot_same n, head-same (slot_of e n))

-- The offsets that the fill writes
offsets-below-same : (d : Design) (pairs : List Pair) → tables d ≡ tables (with-pairs d pairs)
    → (n : ℕ) → offsets_below d n ≡ offsets_below (with-pairs d pairs) n
unfolding opened offsets_below
offsets-below-same d pairs t zero = refl
offsets-below-same d pairs t (suc n) = ap₂ ◌++◌ (offsets-below-same d pairs t n) (rw (t, insides))

pub answers-same : (d e : Design) → Same d e → SameAnswers d e
unfolding opened
answers-same d e s =
    only-pairs (SameAnswers d) d e s
    (λ pairs t.
    let same : Same d (with-pairs d pairs) = search in
    let line = line_same d (with-pairs d pairs) same in
    let asked = asked-same d (with-pairs d pairs) same in
    record {
      design = rw (t, insides);
      budget = rw (t, insides);
      size = rw (size_same d (with-pairs d pairs) same, t, insides);
      set = λ initial offsets. rw (t, insides);
      fill = λ initial offsets. rw (t, insides);
      initial-table = λ initial offsets. rw (t, insides);
      offset-tables = λ initial offsets. rw (offsets-below-same d pairs t d.m, t, insides);
      sum = λ initial offsets x. rw (t, insides);
      evaluate = λ initial offsets x. rw (t, insides);
      batch = λ initial offsets words output. rw (t, insides);
      output = λ initial offsets words output. rw (t, insides);
      check = λ initial offsets. rw (t, insides);
      count = λ initial offsets. rw (t, insides);
      write = λ initial offsets n buffer. rw (line initial offsets n, asked initial offsets n, t, insides);
      line-buffer = λ initial offsets n buffer. rw (line initial offsets n, asked initial offsets n, t, insides);
      write-record = λ initial offsets n buffer. rw (t, insides);
      record-buffer = λ initial offsets n buffer. rw (t, insides);
      record-verdict = λ s text. rw (t, insides);
      record-after = λ s text. rw (t, insides);
      read-record = λ s text. rw (t, insides);
      records-finished = λ state. rw (t, insides);
      budget-told = rw (t, insides);
      size-told = rw (size_same d (with-pairs d pairs) same, t, insides);
      evaluate-told = λ initial offsets x. rw (t, insides);
      batch-told = λ initial offsets words output. rw (t, insides);
      check-told = λ initial offsets. rw (t, insides);
      count-told = λ initial offsets. rw (t, insides);
      write-told = λ initial offsets n buffer. rw (line initial offsets n, asked initial offsets n, t, insides);
      record-told = λ initial offsets n buffer. rw (t, insides);
      line = line;
      lines = λ initial offsets. rw (fun_ext (line initial offsets), t, insides);
      record-at = λ initial offsets n. rw (t, insides);
      records = λ initial offsets. rw (t, insides);
    })
