-- What can be said of sets that are read from the input, whatever lines come.
use Rattle.std.specs.Prelude.{◌≡◌, Bool, true, false, cond, List, [], ◌∷◌, ◌++◌, map, ℕ, ◌+◌, length, Result, Ok, Err}
use Rattle.general.specs.Lists.{All}
use Rattle.refusal.specs.declared.Cause.{Cause}
use Rattle.refusal.specs.Verdict.{Verdict}
use Rattle.refusal.specs.Checks.{answer}
use Rattle.design.specs.declared.Design.{Design}
use Rattle.design.specs.Legal.{Legal}
use Rattle.tables.specs.Inputs.{Usable}
use Rattle.reading.specs.ReadLine.{finished, Session, verdict_on, after}
use Rattle.storage.specs.Feeding.{Begins, Finished, feed, accepted, finishes}
use Rattle.console.specs.declared.line.LineEnd.{LineEnd}
use Rattle.console.specs.Blocks.{Blocks}
use Rattle.console.specs.Reading.{Takes, NoNewline, spelled}
use Rattle.set_console.specs.declared.Came.{Came}

-- Tables of these lengths hold every legal set, so that 10 never turns one down.
abbrev pub HoldsEverySet : ℕ → ℕ → Type 0
HoldsEverySet initial offsets = (d : Design) → Legal d → Usable d initial offsets

-- What came of the input, or the cause for which a line is refused
abbrev pub Outcome : Type 0
Outcome = Result Came Cause

-- What a line that was accepted comes to, by whether the set is finished with it
abbrev pub came_of : Bool → Came
came_of finished = cond finished Came.Set Came.Line

-- What any line comes to, by the verdict on it
abbrev pub came_by : Verdict → Bool → Outcome
came_by v finished = answer v (came_of finished)

-- What a line comes to that is fed to a reading
abbrev pub came_on : Session → List ℕ → Outcome
came_on s line = came_by (verdict_on s line) (finished (after s line).state)

-- What a set that is read comes to, by whether one came
abbrev pub set_came : Result Bool Cause → Outcome
set_came (Ok true) = Ok Came.Set
set_came (Ok false) = Ok Came.Nothing
set_came (Err cause) = Err cause

-- The number of lines that were accepted, with this one
abbrev pub lines_with : Outcome → ℕ → ℕ
lines_with (Ok Came.Line) n = n + 1
lines_with (Ok Came.Set) n = n + 1
lines_with (Ok Came.Nothing) n = n
lines_with (Err cause) n = n

-- The sets that are said to be finished
abbrev pub finished_as : Outcome → Session → List Session
finished_as (Ok Came.Line) next = []
finished_as (Ok Came.Set) next = next ∷ []
finished_as (Ok Came.Nothing) next = []
finished_as (Err cause) next = []

-- A line of the input, among whose bytes there is no newline, and what ended it
pub record InputLine : Type 0 where
  pub line : List ℕ
  pub no-newline : NoNewline line (length line)
  pub end : LineEnd

abbrev pub texts_of : List InputLine → List (List ℕ)
texts_of lines = map (λ (l : InputLine). l.line) lines

-- Their bytes in the input, the newlines with them
unfoldable pub input_bytes : List InputLine → List ℕ
input_bytes [] = []
input_bytes (l ∷ lines) = spelled l.end l.line ++ input_bytes lines

-- The bytes of a line that is said to be refused
abbrev pub refused_bytes : Outcome → InputLine → List ℕ
refused_bytes (Ok came) l = []
refused_bytes (Err cause) l = spelled l.end l.line

-- What some lines of the input did to a reading, all of which were taken: they were fed to it one by one, "each call given the state that the
-- call before gave back and the same tables", so that what `Storage` and `Several` say holds of a reading that began with no line taken.
pub record Led (before next : Session) (from to : Blocks) (first last : ℕ) (came : Outcome) : Type 0 where
  pub lines : List InputLine
  pub fed : feed before (texts_of lines) ≡ next
  pub all-taken : accepted before (texts_of lines) ≡ texts_of lines
  -- They are counted, empty ones too.
  pub counted : last ≡ first + length lines
  -- A set is said to be finished exactly where one is, and only with the last of these lines.
  pub sets : finishes before (texts_of lines) ≡ finished_as came next
  pub complete : came ≡ Ok Came.Set → Finished next
  -- Where a line is said to be refused for a cause, the reader refuses the next line for it, or what was read of that.
  pub line : InputLine
  pub refused : (cause : Cause) → came ≡ Err cause → verdict_on next line.line ≡ Err cause
  -- The bytes that were taken from the input's blocks are those of these lines, in order, and of the one that is refused.
  pub taken : Takes from (input_bytes lines ++ refused_bytes came line) to
  -- The end of the input ended a line only where the input has ended.
  pub ends : All (λ (l : InputLine). l.end ≡ LineEnd.Input → to.ended ≡ true) lines

-- The same, where more was done than reading: the place in the input was then some place.
pub record LedFrom (before next : Session) (from : Blocks) (block : List ℕ) (first last : ℕ) (came : Outcome) : Type 0 where
  pub to : Blocks
  pub stands : to.input ≡ block
  pub led : Led before next from to first last came

-- A reading that some lines led to from one "begun with no line taken"
pub record Reached (s : Session) : Type 0 where
  pub start : Session
  pub begins : Begins start
  pub lines : List (List ℕ)
  pub fed : feed start lines ≡ s
