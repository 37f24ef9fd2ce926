-- What the call `read_line` answers, "reader 17, 15, 16, on an 01 line 1 to 9, then 10", with document 02's 23 "in the reader after 16",
-- and what it leaves in the state and the tables. Document 02, A8: an empty line stands between sets.
use Rattle.std.specs.Prelude.{Bool, true, false, cond, not, ◌||◌, ◌&&◌, List, [], ◌∷◌, ◌++◌, ℕ, ◌+◌, leb, eqb, length, take, drop, set, ℤ}
use Rattle.refusal.specs.declared.Cause.{Cause}
use Rattle.refusal.specs.Verdict.{Verdict}
use Rattle.refusal.specs.Checks.{Check, ◌↝◌, verdict, if_passed, passes}
use Rattle.design.specs.declared.Design.{Design}
use Rattle.design.specs.Legal.{design_verdict}
use Rattle.tables.specs.Set.{tables_check}
use Rattle.frames.specs.Hex.{bytes_of}
use Rattle.frames.specs.Line.{is_empty, line_checks}
use Rattle.frames.specs.DesignFrame.{frame_design, first_checks}
use Rattle.encoding.specs.Bytes.{number_in, entry_bytes, from_complement}
use Rattle.lines.specs.declared.Slot.{Slot}
use Rattle.lines.specs.Slots.{line_count, slot_of}
use Rattle.lines.specs.Lines.{frame_head, entry_width, entry_over}
use Rattle.reading.specs.declared.Reading.{Reading}
use Rattle.reading.specs.declared.Read.{Read}

-- "The state is possible if no line is taken, or if the design is legal and no more lines are taken than the set has."
unfoldable pub possible : Reading → Bool
possible state = eqb state.taken 0 || passes (design_verdict state.design) && leb state.taken (line_count state.design)

-- 17, "state not possible"
unfoldable pub state_check : Reading → Check
state_check state = not (possible state) ↝ Cause.State

-- "After 04 nothing more is due and the reading is finished": a possible state in which all lines are taken
unfoldable pub finished : Reading → Bool
finished state = possible state && eqb state.taken (line_count state.design)

-- Document 02, A8: an empty line may stand "after a finished set" and "before a set's first line", where no line is taken.
unfoldable pub between : Reading → Bool
between state = eqb state.taken 0 || finished state

-- "Inside a set it is refused with 16"
unfoldable pub empty_check : Reading → Check
empty_check state = not (between state) ↝ Cause.Frame

-- "with 0 taken the design is not read": the design is then that of the line, which is given as its bytes.
unfoldable pub design_after : Reading → List ℕ → Design
design_after state bytes = cond (eqb state.taken 0) (frame_design bytes) state.design

-- Whether the bytes begin with these
unfoldable pub begins : List ℕ → List ℕ → Bool
begins bytes [] = true
begins [] (first ∷ rest) = false
begins (byte ∷ bytes) (first ∷ rest) = eqb byte first && begins bytes rest

-- 16 of a later line, "frame kind, byte count, table number, index or count not the one due": its bytes are not as many as the head
-- that is due, the entry and the sum byte, or they do not begin with that head.
unfoldable pub head_fails : List ℕ → ℕ → List ℕ → ℕ → Bool
head_fails head width bytes count = not (eqb count (length head + width + 1)) || not (begins bytes head)

-- 16 of a line with others taken before it: "After 04 nothing more is due", or it is not the frame that is due.
unfoldable pub later_fails : Reading → List ℕ → Bool
later_fails state bytes =
    let d = state.design in
    let slot = slot_of d state.taken in
    leb (line_count d) state.taken || head_fails (frame_head d slot) (entry_width slot) bytes (length bytes)

-- The number in the bytes of a line's entry
unfoldable pub entry_in : Design → Slot → List ℕ → ℕ
entry_in d slot bytes = number_in (take (entry_width slot) (drop (length (frame_head d slot)) bytes))

-- What is tried on a line with others taken before it: 16, and on an 02 line 23, "an initial entry is 2^(P+2) or more"
unfoldable pub later_checks : Reading → List ℕ → List Check
later_checks state bytes =
    let d = state.design in
    let slot = slot_of d state.taken in
    later_fails state bytes ↝ Cause.Frame ∷ entry_over d slot (entry_in d slot bytes) ↝ Cause.InitialRange ∷ []

-- "16, on an 01 line 1 to 9", on an 02 line 23, "then 10", of a sound line's bytes, for tables of these lengths: with no line taken the
-- first frame is due.
unfoldable pub due_checks : Reading → ℕ → ℕ → List ℕ → List Check
due_checks state initial offsets bytes =
    cond (eqb state.taken 0) (first_checks bytes (length bytes)) (later_checks state bytes)
    ++ tables_check (design_after state bytes) initial offsets ∷ []

unfoldable pub due_verdict : Reading → ℕ → ℕ → List ℕ → Verdict
due_verdict state initial offsets bytes = verdict (due_checks state initial offsets bytes)

-- "reader 17, 15", and what is due. An empty line is tried by the state alone: "Neither tries the tables".
unfoldable pub read_verdict : Reading → ℕ → ℕ → List ℕ → Verdict
read_verdict state initial offsets line =
    verdict
    (state_check state
    ∷ cond (is_empty line) (empty_check state ∷ []) (line_checks line ++ due_checks state initial offsets (bytes_of line)))

-- "Each accepted line moves the reading state on by one". Pairs beyond m are those of the design: zeros from an 01 line, as they came
-- later.
abbrev pub next_state : Reading → List ℕ → Reading
next_state state bytes = record { design = design_after state bytes; taken = state.taken + 1 }

-- "An empty line after a finished set gives a reading state with no line taken, the design in it standing as it came. An empty line before a
-- set's first line is passed over, the state unchanged": no line is taken then.
abbrev pub none_taken : Reading → Reading
none_taken state = record { design = state.design; taken = 0 }

-- "stores at most one entry; all other elements stand"
unfoldable pub initial_stored : Slot → ℕ → List ℕ → List ℕ
initial_stored Slot.Design n initial = initial
initial_stored (Slot.Initial index) n initial = set initial index n
initial_stored (Slot.Offset table index place) n initial = initial
initial_stored (Slot.End before) n initial = initial

unfoldable pub offsets_stored : Slot → ℕ → List ℤ → List ℤ
offsets_stored Slot.Design n offsets = offsets
offsets_stored (Slot.Initial index) n offsets = offsets
offsets_stored (Slot.Offset table index place) n offsets = set offsets place (from_complement entry_bytes n)
offsets_stored (Slot.End before) n offsets = offsets

-- A reading: its state, and the tables that it stores in
pub record Session : Type 0 where
  pub state : Reading
  pub initial : List ℕ
  pub offsets : List ℤ

abbrev pub session : Reading → List ℕ → List ℤ → Session
session state initial offsets = record { state = state; initial = initial; offsets = offsets }

-- "Each accepted line moves the reading state on by one and stores at most one entry"
abbrev pub moved : Session → List ℕ → Session
moved s bytes =
    let d = design_after s.state bytes in
    let slot = slot_of d s.state.taken in
    record {
      state = next_state s.state bytes;
      initial = initial_stored slot (entry_in d slot bytes) s.initial;
      offsets = offsets_stored slot (entry_in d slot bytes) s.offsets;
    }

-- a refusal "leaves every buffer untouched and gives back the state that came in"
abbrev pub moved_if : Verdict → Session → List ℕ → Session
moved_if v s bytes = if_passed v (moved s bytes) (λ cause. s)

-- The reading after a sound line, which is given as its bytes
unfoldable pub after_frame : Session → List ℕ → Session
after_frame s bytes = moved_if (due_verdict s.state (length s.initial) (length s.offsets) bytes) s bytes

-- The verdict of a reading on a line, and the reading after it: an accepted empty line leaves both tables.
unfoldable pub verdict_on : Session → List ℕ → Verdict
verdict_on s line = read_verdict s.state (length s.initial) (length s.offsets) line

abbrev pub moved_by : Session → List ℕ → Session
moved_by s line = cond (is_empty line) (session (none_taken s.state) s.initial s.offsets) (moved s (bytes_of line))

unfoldable pub after : Session → List ℕ → Session
after s line = if_passed (verdict_on s line) (moved_by s line) (λ cause. s)

-- What `read_line` returns: the verdict, and the next state beside it
unfoldable pub read_answer : Session → List ℕ → Read
read_answer s line = record { verdict = verdict_on s line; state = (after s line).state }
