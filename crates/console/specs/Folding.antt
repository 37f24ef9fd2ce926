-- What can be said of a line of any length, of which a text is made a byte at a time.
use Rattle.std.specs.Prelude.{◌≡◌, true, List, ℕ, ◌<◌, length}
use Rattle.std.specs.List.{FoldsTo}
use Rattle.console.specs.Blocks.{Blocks}
use Rattle.console.specs.declared.line.LineEnd.{LineEnd}
use Rattle.console.specs.Reading.{Takes, NoNewline, spelled}

pub record LineFolded {T : Type 0} (step : T → ℕ → T → Type 0) (c : Blocks) (start text : T) (next : Blocks) : Type 0 where
  -- the bytes that are taken from the input are those of a line, and no newline is among them
  pub line : List ℕ
  pub end : LineEnd
  pub taken : Takes c (spelled end line) next
  pub no-newline : NoNewline line (length line)
  -- nothing of the line is cut off
  pub whole : end ≡ LineEnd.Cut → ⊥
  -- the input has ended where it is said to have ended the line, which has a byte then
  pub over : end ≡ LineEnd.Input → next.ended ≡ true
  pub some : end ≡ LineEnd.Input → 0 < length line
  -- the text is made of all of them, in order
  pub folds : FoldsTo step start line text
