-- What the call `write_line` answers, "writer 1 to 10, 19, 18, 14", with document 02's 23 "in the writer after 18", and what it leaves in
-- the line buffer.
use Rattle.std.specs.Prelude.{Bool, not, List, [], ◌∷◌, ◌++◌, ℕ, leb, ltb, length, ℤ, Result}
use Rattle.refusal.specs.declared.Cause.{Cause}
use Rattle.refusal.specs.Verdict.{Verdict}
use Rattle.refusal.specs.Checks.{Check, ◌↝◌, verdict, answer, leaves}
use Rattle.refusal.specs.Told.{Told, told}
use Rattle.design.specs.declared.Design.{Design}
use Rattle.tables.specs.Set.{set_checks}
use Rattle.lines.specs.declared.Slot.{Slot}
use Rattle.lines.specs.Slots.{line_count, slot_of}
use Rattle.lines.specs.Lines.{entry_number, entry_fits, entry_over, line_at}

-- 19, "line number past the set (lines count from 0)"
unfoldable pub number_check : Design → ℕ → Check
number_check d n = leb (line_count d) n ↝ Cause.LineNumber

-- 18, "entry does not fit its 3 bytes", and 14, "line buffer shorter than the line". They concern what is asked for only.
abbrev pub width_check : Bool → Check
width_check fits = not fits ↝ Cause.EntryWidth

abbrev pub room_check : ℕ → ℕ → Check
room_check line buffer = ltb buffer line ↝ Cause.OutputShort

-- 18, then 23, by whether the entry fits and whether it is an initial entry of 2^(P+2) or more,
unfoldable pub entry_checks : Bool → Bool → List Check
entry_checks fits over = width_check fits ∷ over ↝ Cause.InitialRange ∷ []

-- and of the entry of a line
unfoldable pub asked_checks : Design → Slot → List ℕ → List ℤ → List Check
asked_checks d slot initial offsets = entry_checks (entry_fits slot initial offsets) (entry_over d slot (entry_number slot initial offsets))

-- "writer 1 to 10, 19, 18", 23, "14"
unfoldable pub write_verdict : Design → List ℕ → List ℤ → ℕ → ℕ → Verdict
write_verdict d initial offsets n buffer =
    verdict (set_checks d (length initial) (length offsets)
    ++ (number_check d n ∷ asked_checks d (slot_of d n) initial offsets ++ room_check (length (line_at d initial offsets n)) buffer ∷ []))

-- The writer "returns its length", by the verdict on what is asked for
abbrev pub written_if : Verdict → List ℕ → Result ℕ Cause
written_if v line = answer v (length line)

-- n is the asked number, `buffer` the length of the line buffer.
unfoldable pub write_answer : Design → List ℕ → List ℤ → ℕ → ℕ → Result ℕ Cause
write_answer d initial offsets n buffer = written_if (write_verdict d initial offsets n buffer) (line_at d initial offsets n)

-- "puts the line with the asked number at the start of the line buffer .. and leaves the rest untouched"; a refusal "leaves every
-- buffer untouched".
unfoldable pub buffer_after : Design → List ℕ → List ℤ → ℕ → List ℕ → List ℕ
buffer_after d initial offsets n buffer =
    leaves (write_verdict d initial offsets n (length buffer)) (line_at d initial offsets n) buffer

-- What is to be told: a refusal, or the line's length
unfoldable pub write_told : Design → List ℕ → List ℤ → ℕ → ℕ → Told ℕ
write_told d initial offsets n buffer = told (write_verdict d initial offsets n buffer) (length (line_at d initial offsets n))
