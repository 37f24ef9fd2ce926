-- What can be said of a set that is read from records, whatever lines come.
use Rattle.std.specs.Prelude.{◌≡◌, Bool, true, false, List, ℕ, ◌+◌, length, take, ℤ, Result, Ok, Err, Option, Some, None}
use Rattle.refusal.specs.declared.Cause.{Cause}
use Rattle.refusal.specs.Checks.{answer}
use Rattle.design.specs.declared.Design.{Design}
use Rattle.design.specs.Legal.{Legal}
use Rattle.frames.specs.Hex.{bytes_of}
use Rattle.frames.specs.DesignFrame.{frame_design}
use Rattle.frames.specs.DesignText.{design_line_verdict}
use Rattle.records.specs.SetBytes.{byte_count}
use Rattle.record_reading.specs.ReadRecord.{hex_possible, hex_finished, HexSession, hex_session}
use Rattle.record_storage.specs.Loading.{no_record, hex_feed}
use Rattle.console.specs.Blocks.{Blocks}
use Rattle.console.specs.declared.line.LineStart.{LineStart}
use Rattle.hex_console.specs.LineTexts.{TextCame}
use Rattle.set_console.specs.declared.Came.{Came}
use Rattle.set_console.specs.Reading.{Outcome}

-- A design that was read: it stands on some line that has to hold one, "15, 16, 1 to 9", and is legal.
pub record DesignCame (d : Design) : Type 0 where
  pub line : List ℕ
  pub passed : design_line_verdict line ≡ (Ok tt)
  pub held : frame_design (bytes_of line) ≡ d
  pub legal : Legal d

-- What came of reading one: the design, if there is a line and it is not refused
abbrev pub DesignRead : Result (Option Design) Cause → Type 0
DesignRead (Ok (Some d)) = DesignCame d
DesignRead (Ok None) = Unit {0}
DesignRead (Err cause) = Unit {0}

-- The answer to a line that was read, if there is one: the design on it, or what it is refused for
abbrev pub design_answer : List ℕ → Option LineStart → Result (Option Design) Cause
design_answer bytes None = Ok None
design_answer bytes (Some line) =
    let text = take line.count bytes in
    answer (design_line_verdict text) (Some (frame_design (bytes_of text)))

-- What came is the answer to the line that was taken from the input
pub record DesignTold (from to : Blocks) (result : Result (Option Design) Cause) : Type 0 where
  pub bytes : List ℕ
  pub line : Option LineStart
  pub came : TextCame bytes line from to
  pub told : result ≡ design_answer bytes line

-- Taking a record, or none, leads from one reading to the next: it is fed to the reader.
pub record HexStepped (d : Design) (before next : HexSession) (came : Outcome) : Type 0 where
  pub texts : List (List ℕ)
  pub fed : hex_feed d before texts ≡ next
  -- There is more to take where a record was accepted, which moves the state on by one, and the reading is not finished,
  pub moves : came ≡ Ok Came.Line → next.state.taken ≡ before.state.taken + 1
  pub unfinished : came ≡ Ok Came.Line → hex_finished d next.state ≡ false
  -- and no more only where it is finished or no record was taken.
  pub finished : came ≡ Ok Came.Set → hex_finished d next.state ≡ true
  pub nothing : came ≡ Ok Came.Nothing → next ≡ before
  pub refused : (cause : Cause) → came ≡ Err cause → next ≡ before

-- A set that was read into these tables: "begun with no record taken, each call given the same design, the state that the call before gave
-- back and the same tables". What comes back is where the records led that were fed, so that what `RecordStorage` says of a finished
-- reading holds of it.
pub record HexCame (d : Design) (initial : List ℕ) (offsets : List ℤ) (end : HexSession) : Type 0 where
  pub texts : List (List ℕ)
  pub fed : hex_feed d (hex_session no_record initial offsets) texts ≡ end
  -- the state is possible, and the tables keep their lengths
  pub is-possible : hex_possible (byte_count d) end.state ≡ true
  pub initial-length : length end.initial ≡ length initial
  pub offsets-length : length end.offsets ≡ length offsets

-- Whether a whole set came
abbrev pub is_whole : Result Bool Cause → Bool
is_whole (Ok whole) = whole
is_whole (Err cause) = false
