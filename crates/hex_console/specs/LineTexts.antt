-- Lines of a file from a device programmer, which ends them with a carriage return and a newline.
use Rattle.std.specs.Prelude.{◌≡◌, true, cond, List, [], ◌++◌, ℕ, ◌-◌, eqb, length, get_or, take, Option, Some, None}
use Rattle.frames.specs.Line.{line_fails}
use Rattle.records.specs.Record.{record_fails}
use Rattle.console.specs.declared.line.LineEnd.{LineEnd}
use Rattle.console.specs.declared.line.LineStart.{LineStart}
use Rattle.console.specs.Blocks.{Blocks}
use Rattle.console.specs.Reading.{Takes, NoNewline, spelled}
use Rattle.console.specs.Counts.{IsPrefixLen}

-- Bytes without one carriage return at their end, if there is one. 13 is the carriage return.
unfoldable pub without_return : List ℕ → List ℕ
without_return bytes = cond (eqb (get_or bytes (length bytes - 1) 0) 13) (take (length bytes - 1) bytes) bytes

-- What stands on a line, by what ended it: one carriage return before its newline is no part of it.
unfoldable pub line_text : LineEnd → List ℕ → List ℕ
line_text LineEnd.Newline bytes = without_return bytes
line_text LineEnd.Input bytes = bytes
line_text LineEnd.Cut bytes = bytes

-- A text that is neither a record nor a line: 21 and 15 refuse it.
pub record TextFails (text : List ℕ) : Type 0 where
  pub as-record : record_fails text ≡ true
  pub as_line : line_fails text ≡ true

-- The text of a line that is read into lent bytes, from a place in the input on
pub record TextRead (bytes : List ℕ) (line : LineStart) (from to : Blocks) : Type 0 where
  -- so many bytes of the line were taken from the input, and no newline is among them
  pub read : ℕ
  pub taken : Takes from (spelled line.end (take read bytes)) to
  pub read-counts : IsPrefixLen read bytes
  pub no-newline : NoNewline bytes read
  -- what stands on the line are the first `count`
  pub counts : IsPrefixLen line.count bytes
  pub text : take line.count bytes ≡ line_text line.end (take read bytes)
  -- a line that is said to be cut off is refused, whatever follows what was read and whatever ends it
  pub cut : line.end ≡ LineEnd.Cut → (rest : List ℕ) (end : LineEnd) → TextFails (line_text end (take read bytes ++ rest))

-- Such a line, or none, as the input ended before a byte of it
abbrev pub TextCame : List ℕ → Option LineStart → Blocks → Blocks → Type 0
TextCame bytes (Some line) from to = TextRead bytes line from to
TextCame bytes None from to = Takes from [] to × (to.ended ≡ true)
