-- Document 01, "Bits, lines and the report": "Demand 2 means a reading begun with no line taken, each call given the state that the call
-- before gave back and the same tables, changed by nobody else until it is finished; refused lines do not count."
use Rattle.std.specs.Prelude.{List, [], ◌∷◌, ◌++◌, ◌≡◌, true, cond, ◌&&◌, ℕ, eqb}
use Rattle.refusal.specs.Verdict.{Verdict}
use Rattle.refusal.specs.Checks.{if_passed, passes}
use Rattle.reading.specs.ReadLine.{finished, Session, verdict_on, after}

-- "a reading begun with no line taken"
abbrev pub Begins : Session → Type 0
Begins s = s.state.taken ≡ 0

-- "After 04 nothing more is due and the reading is finished."
abbrev pub Finished : Session → Type 0
Finished s = finished s.state ≡ true

-- The reading after lines that are fed one by one
unfoldable pub feed : Session → List (List ℕ) → Session
feed s [] = s
feed s (line ∷ lines) = feed (after s line) lines

-- "refused lines do not count": those of the lines that are accepted, in order
abbrev pub kept_if : Verdict → List ℕ → List (List ℕ) → List (List ℕ)
kept_if v line lines = if_passed v (line ∷ lines) (λ cause. lines)

unfoldable pub accepted : Session → List (List ℕ) → List (List ℕ)
accepted s [] = []
accepted s (line ∷ lines) = kept_if (verdict_on s line) line (accepted (after s line) lines)

-- Document 02, A8: "a finished reading is compared with the writer's lines without the empty ones". What counts are the lines that were
-- accepted since the reading last had no line taken. An empty line is accepted only before a set or after one, and no line is taken then;
-- so none of these is empty, and none is of a set before.
unfoldable pub with_line : List (List ℕ) → Session → List ℕ → List (List ℕ)
with_line came s line = cond (eqb (after s line).state.taken 0) [] (came ++ kept_if (verdict_on s line) line [])

unfoldable pub taken_from : List (List ℕ) → Session → List (List ℕ) → List (List ℕ)
taken_from came s [] = came
taken_from came s (line ∷ lines) = taken_from (with_line came s line) (after s line) lines

-- those of a reading that begins with no line taken
abbrev pub taken : Session → List (List ℕ) → List (List ℕ)
taken s lines = taken_from [] s lines

-- Sets are "taken out at each finish": the readings at which one is finished while lines are fed, each right after the line that finished it
unfoldable pub finished_by : Session → List ℕ → List Session
finished_by s line = cond (passes (verdict_on s line) && finished (after s line).state) (after s line ∷ []) []

unfoldable pub finishes : Session → List (List ℕ) → List Session
finishes s [] = []
finishes s (line ∷ lines) = finished_by s line ++ finishes (after s line) lines
