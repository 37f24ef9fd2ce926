-- Document 01, "A design": "Pairs beyond m are not read; a reader leaves zeros there on an 01 line and keeps them as they came on later
-- lines, and sets are compared without them."
use Rattle.std.specs.Prelude.{◌≡◌, false, List, ℕ, ◌≤◌, ◌<◌, get_or, ℤ, Ok}
use Rattle.refusal.specs.Checks.{verdict}
use Rattle.design.specs.declared.Design.{Design}
use Rattle.design.specs.Cut.{no_pair}
use Rattle.design.specs.Same.{Same}
use Rattle.design.specs.Legal.{design_verdict}
use Rattle.design.specs.Answers.{budget_answer, budget_told}
use Rattle.sizing.specs.Size.{size_answer, size_told}
use Rattle.tables.specs.Sum.{sum_at}
use Rattle.tables.specs.Set.{set_checks}
use Rattle.filling.specs.Fill.{fill_verdict, initial_after, offsets_after}
use Rattle.evaluating.specs.Evaluate.{evaluate_answer, evaluate_told}
use Rattle.evaluating.specs.Batch.{batch_answer, batch_told, output_after}
use Rattle.checking.specs.Check.{check_answer, check_told}
use Rattle.counting.specs.Count.{count_answer, count_told}
use Rattle.frames.specs.Line.{is_empty}
use Rattle.lines.specs.Lines.{line_at, set_lines}
use Rattle.writing.specs.Write.{write_answer, buffer_after, write_told}
use Rattle.reading.specs.ReadLine.{finished, Session, verdict_on, after}
use Rattle.records.specs.SetBytes.{set_record, set_records}
use Rattle.record_writing.specs.WriteRecord.{hex_write_answer, record_buffer_after, hex_write_told}
use Rattle.record_reading.specs.declared.HexReading.{HexReading}
use Rattle.record_reading.specs.ReadRecord.{hex_finished, HexSession, hex_verdict_on, hex_after, hex_answer}

-- Two designs get the same answers, and leave the same behind: over the same tables, which for a set's verdict and the fill's are given
-- as their lengths; a reading of records has its tables and its state in it, but not the design.
pub record SameAnswers (d e : Design) : Type 0 where
  -- refusals 1 to 9; budget and size
  pub design : design_verdict d ≡ design_verdict e
  pub budget : budget_answer d ≡ budget_answer e
  pub size : size_answer d ≡ size_answer e
  -- refusals 1 to 10; the fill, and what it leaves in either table
  pub set : (initial offsets : ℕ) → verdict (set_checks d initial offsets) ≡ verdict (set_checks e initial offsets)
  pub fill : (initial offsets : ℕ) → fill_verdict d initial offsets ≡ fill_verdict e initial offsets
  pub initial-table : (initial : List ℕ) (offsets : List ℤ) → initial_after d initial offsets ≡ initial_after e initial offsets
  pub offset-tables : (initial : List ℕ) (offsets : List ℤ) → offsets_after d initial offsets ≡ offsets_after e initial offsets
  -- Y; a word; a batch, and what it leaves in the output
  pub sum : (initial : List ℕ) (offsets : List ℤ) (x : ℕ) → sum_at d initial offsets x ≡ sum_at e initial offsets x
  pub evaluate : (initial : List ℕ) (offsets : List ℤ) (x : ℕ) → evaluate_answer d initial offsets x ≡ evaluate_answer e initial offsets x
  pub batch : (initial : List ℕ) (offsets : List ℤ) (words : List ℕ) (output : ℕ)
      → batch_answer d initial offsets words output ≡ batch_answer e initial offsets words output
  pub output : (initial : List ℕ) (offsets : List ℤ) (words output : List ℕ)
      → output_after d initial offsets words output ≡ output_after e initial offsets words output
  pub check : (initial : List ℕ) (offsets : List ℤ) → check_answer d initial offsets ≡ check_answer e initial offsets
  pub count : (initial : List ℕ) (offsets : List ℤ) → count_answer d initial offsets ≡ count_answer e initial offsets
  -- the writer, and what it leaves in the line buffer
  pub write : (initial : List ℕ) (offsets : List ℤ) (n buffer : ℕ)
      → write_answer d initial offsets n buffer ≡ write_answer e initial offsets n buffer
  pub line-buffer : (initial : List ℕ) (offsets : List ℤ) (n : ℕ) (buffer : List ℕ)
      → buffer_after d initial offsets n buffer ≡ buffer_after e initial offsets n buffer
  -- the writer of records, and what it leaves in the record buffer
  pub write-record : (initial : List ℕ) (offsets : List ℤ) (n buffer : ℕ)
      → hex_write_answer d initial offsets n buffer ≡ hex_write_answer e initial offsets n buffer
  pub record-buffer : (initial : List ℕ) (offsets : List ℤ) (n : ℕ) (buffer : List ℕ)
      → record_buffer_after d initial offsets n buffer ≡ record_buffer_after e initial offsets n buffer
  -- the reader of records: its verdict, what it leaves in the state and in either table, its answer, and whether it is finished
  pub record-verdict : (s : HexSession) (text : List ℕ) → hex_verdict_on d s text ≡ hex_verdict_on e s text
  pub record-after : (s : HexSession) (text : List ℕ) → hex_after d s text ≡ hex_after e s text
  pub read-record : (s : HexSession) (text : List ℕ) → hex_answer d s text ≡ hex_answer e s text
  pub records-finished : (state : HexReading) → hex_finished d state ≡ hex_finished e state
  -- what these answers are to tell
  pub budget-told : budget_told d ≡ budget_told e
  pub size-told : size_told d ≡ size_told e
  pub evaluate-told : (initial : List ℕ) (offsets : List ℤ) (x : ℕ) → evaluate_told d initial offsets x ≡ evaluate_told e initial offsets x
  pub batch-told : (initial : List ℕ) (offsets : List ℤ) (words : List ℕ) (output : ℕ)
      → batch_told d initial offsets words output ≡ batch_told e initial offsets words output
  pub check-told : (initial : List ℕ) (offsets : List ℤ) → check_told d initial offsets ≡ check_told e initial offsets
  pub count-told : (initial : List ℕ) (offsets : List ℤ) → count_told d initial offsets ≡ count_told e initial offsets
  pub write-told : (initial : List ℕ) (offsets : List ℤ) (n buffer : ℕ)
      → write_told d initial offsets n buffer ≡ write_told e initial offsets n buffer
  pub record-told : (initial : List ℕ) (offsets : List ℤ) (n buffer : ℕ)
      → hex_write_told d initial offsets n buffer ≡ hex_write_told e initial offsets n buffer
  -- each line, and all lines of a set
  pub line : (initial : List ℕ) (offsets : List ℤ) (n : ℕ) → line_at d initial offsets n ≡ line_at e initial offsets n
  pub lines : (initial : List ℕ) (offsets : List ℤ) → set_lines d initial offsets ≡ set_lines e initial offsets
  -- each record, and all records of a set
  pub record-at : (initial : List ℕ) (offsets : List ℤ) (n : ℕ) → set_record d initial offsets n ≡ set_record e initial offsets n
  pub records : (initial : List ℕ) (offsets : List ℤ) → set_records d initial offsets ≡ set_records e initial offsets

-- Two readings of which the same is read: "with 0 taken the design is not read".
pub record SameReading (s t : Session) : Type 0 where
  pub taken : s.state.taken ≡ t.state.taken
  pub design : 0 < s.state.taken → Same s.state.design t.state.design
  pub initial : s.initial ≡ t.initial
  pub offsets : s.offsets ≡ t.offsets

-- The reader answers both alike, and leaves the same behind.
pub record SameRead (s t : Session) (line : List ℕ) : Type 0 where
  pub verdict : verdict_on s line ≡ verdict_on t line
  pub after : SameReading (after s line) (after t line)
  pub finished : finished s.state ≡ finished t.state

-- The sentence, whole. Sets are compared by SameSet (Sets.antt).
pub record Unread : Type 0 where
  -- "Pairs beyond m are not read": by no call that takes a design,
  pub not-read : (d e : Design) → Same d e → SameAnswers d e
  -- and not by the reader of lines, whose state has the design in it
  pub reader : (s t : Session) → SameReading s t → (line : List ℕ) → SameRead s t line
  -- "a reader leaves zeros there on an 01 line": the first that is not empty
  pub zeros : (s : Session) (line : List ℕ) → s.state.taken ≡ 0 → is_empty line ≡ false → verdict_on s line ≡ Ok tt
      → (i : ℕ) → (after s line).state.design.m ≤ i
      → get_or (after s line).state.design.pairs i no_pair ≡ no_pair
  -- "and keeps them as they came on later lines", also on an empty one after the last
  pub kept : (s : Session) (line : List ℕ) → 0 < s.state.taken → (after s line).state.design ≡ s.state.design
