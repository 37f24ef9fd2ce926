-- What the checks of the writer come to, what it finds out about the asked line, and what its answer promises of the line buffer.
use Rattle.std.specs.Prelude.{Ok, Err, Result}
use mathlib.Core.Path.{◌≡◌, refl, ap, ◌∙◌}
use mathlib.Core.Bool.{Bool, true, false}
use mathlib.Core.List.{List, [], ◌∷◌, ◌++◌}
use Prim.Native.Nat.{ℕ, ◌+◌, ◌*◌, ◌≤◌, ◌<◌}
use native.Mathlib.Omega.{arith}
use lib.Dec.{ltb}
use lib.IntN.{ℤ}
use lib.ListN.{length}
use borrow.Author.Tests.{le-leb, lt-leb, leb-false, le-ltb, not-false}
use Rattle.general.specs.Lists.{over}
use Rattle.general.proofs.WritingLaws.{over-start}
use Rattle.refusal.specs.declared.Cause.{Cause}
use Rattle.refusal.specs.Verdict.{Verdict}
use Rattle.refusal.specs.Checks.{Check, ◌↝◌, verdict, leaves}
use Rattle.refusal.specs.Told.{told, told_by}
use Rattle.refusal.proofs.Checks.{after, verdict-append, passed-append, none-fails}
use Rattle.refusal.proofs.Answers.{only-passed}
use Rattle.design.specs.declared.Design.{Design}
use Rattle.tables.specs.Inputs.{Usable}
use Rattle.tables.specs.Set.{set_checks}
use Rattle.tables.proofs.SetLaws.{usable, set-passed}
use Rattle.frames.specs.Line.{longest_line}
use Rattle.encoding.specs.declared.Frame.{Frame}
use Rattle.encoding.specs.Bytes.{big_endian, entry_bytes}
use Rattle.encoding.specs.Encode.{line_of}
use Rattle.encoding.specs.Inputs.{held}
use Rattle.encoding.proofs.LineBack.{line-length}
use Rattle.lines.specs.declared.Slot.{Slot}
use Rattle.lines.specs.Slots.{line_count, slot_of}
use Rattle.lines.specs.Lines.{frame_head, entry_width, entry_number, entry_fits, entry_over, frame_of, line_at}
use Rattle.lines.specs.Inputs.{SlotIn}
use Rattle.lines.proofs.SlotLaws.{slot-in}
use Rattle.lines.proofs.FrameLaws.{frame-length, frame-short, entry-short}
use Rattle.writing.specs.Write.{
  number_check,
  room_check,
  entry_checks,
  asked_checks,
  write_verdict,
  written_if,
  write_answer,
  buffer_after,
  write_told,
}

-- A line carries its entry: it fits, and it is no initial entry at the limit on sums or beyond it.
pub record Carried (d : Design) (slot : Slot) (initial : List ℕ) (offsets : List ℤ) : Type 0 where
  pub fits : entry_fits slot initial offsets ≡ true
  pub below : entry_over d slot (entry_number slot initial offsets) ≡ false

-- These are the entries that pass 18 and 23.
module _ (d : Design) (slot : Slot) (initial : List ℕ) (offsets : List ℤ) where
  pub carried : verdict (asked_checks d slot initial offsets) ≡ Ok tt → Carried d slot initial offsets
  unfolding asked_checks entry_checks
  carried e =
      let tests = none-fails (asked_checks d slot initial offsets) e in
      record { fits = not-false _ tests.0; below = tests.1.0 }

  pub carried-passes : Carried d slot initial offsets → verdict (asked_checks d slot initial offsets) ≡ Ok tt
  unfolding asked_checks entry_checks
  carried-passes c = rw (c.fits, c.below)

-- "writer 1 to 10, 19, 18", 23, "14"
module _ (d : Design) (initial : List ℕ) (offsets : List ℤ) (n buffer : ℕ) where
  -- What is tried once the set has passed
  abbrev line_checks : List Check
  line_checks =
      number_check d n ∷ asked_checks d (slot_of d n) initial offsets ++ room_check (length (line_at d initial offsets n)) buffer ∷ []

  -- A set that is refused by 1 to 10 is refused,
  pub refused-before : {cause : Cause} → verdict (set_checks d (length initial) (length offsets)) ≡ Err cause
      → write_verdict d initial offsets n buffer ≡ Err cause
  unfolding write_verdict
  refused-before e = verdict-append (set_checks d (length initial) (length offsets)) line_checks ∙ rw e

  module _ (u : Usable d (length initial) (length offsets)) where
    set-settles : write_verdict d initial offsets n buffer ≡ verdict line_checks
    unfolding write_verdict
    set-settles = verdict-append (set_checks d (length initial) (length offsets)) line_checks ∙ rw (set-passed _ _ _ u)

    -- a number past the set is refused by 19,
    pub past-set : line_count d ≤ n → write_verdict d initial offsets n buffer ≡ Err Cause.LineNumber
    unfolding number_check
    past-set h = set-settles ∙ rw (le-leb _ _ h)

    -- and for one within it 18 and 23 of the entry are left, and then 14.
    within-set : n < line_count d
        → write_verdict d initial offsets n buffer
        ≡ after (verdict (asked_checks d (slot_of d n) initial offsets))
        (verdict (room_check (length (line_at d initial offsets n)) buffer ∷ []))
    unfolding number_check
    within-set h = set-settles ∙ rw (lt-leb _ _ h) (verdict-append (asked_checks d (slot_of d n) initial offsets) _)

    pub entry-refused : n < line_count d → {cause : Cause} → verdict (asked_checks d (slot_of d n) initial offsets) ≡ Err cause
        → write_verdict d initial offsets n buffer ≡ Err cause
    entry-refused h e = within-set h ∙ rw e

    -- A line that carries its entry is written into a buffer that is long enough.
    pub line-passes : n < line_count d → Carried d (slot_of d n) initial offsets → length (line_at d initial offsets n) ≤ buffer
        → write_verdict d initial offsets n buffer ≡ Ok tt
    line-passes h entry room = within-set h ∙ rw (carried-passes _ _ _ _ entry, le-ltb _ _ room)

-- The writer gives a line only where nothing turned it down:
module _ (d : Design) (initial : List ℕ) (offsets : List ℤ) (n buffer : ℕ) where
  pub line-given : {digits : ℕ} → write_answer d initial offsets n buffer ≡ Ok digits
      → write_verdict d initial offsets n buffer ≡ Ok tt
  unfolding write_answer
  line-given {digits} e =
      only-passed (λ (answer : Result ℕ Cause). answer ≡ Ok digits) _ _ Err
      (λ cause f. let z : ◌≡◌ {A = ℕ} 0 1 = cc in omega arith) e

  -- then the set passes 1 to 10, the line is one of its lines, and it carries its entry.
  pub record Given : Type 0 where
    pub usable : Usable d (length initial) (length offsets)
    pub within : n < line_count d
    pub entry : Carried d (slot_of d n) initial offsets

  pub given : write_verdict d initial offsets n buffer ≡ Ok tt → Given
  unfolding write_verdict number_check
  given e =
      let asked = asked_checks d (slot_of d n) initial offsets in
      let room = room_check (length (line_at d initial offsets n)) buffer ∷ [] in
      let lists = passed-append (set_checks d (length initial) (length offsets)) (line_checks d initial offsets n buffer) e in
      let later = passed-append (number_check d n ∷ []) (asked ++ room) lists.1 in
      record {
        usable = usable _ _ _ lists.0;
        within = leb-false _ _ (none-fails (number_check d n ∷ []) later.0).0;
        entry = carried d (slot_of d n) initial offsets (passed-append asked room later.1).0;
      }

-- The asked line of a set whose tables are long enough: what it holds, its frame up to the entry, and how many bytes the entry takes
pub record Asked (d : Design) (initial : List ℕ) (offsets : List ℤ) (n : ℕ) (slot : Slot) (head : Frame) (width : ℕ) : Type 0 where
  pub set : Usable d (length initial) (length offsets)
  pub within : n < line_count d
  pub slot_is : slot ≡ slot_of d n
  pub head-is : held head ≡ frame_head d slot
  pub count-is : head.count ≡ length (frame_head d slot)
  pub width_is : width ≡ entry_width slot

module _ {d : Design} {initial : List ℕ} {offsets : List ℤ} {n : ℕ} {slot : Slot} {head : Frame} {width : ℕ}
    (asked : Asked d initial offsets n slot head width) where
  -- Its entry lies within the tables,
  pub asked_in : SlotIn slot (length initial) (length offsets)
  asked_in = rw asked.slot_is (slot-in d (length initial) (length offsets) n asked.set asked.within)

  -- it takes no more than its 3 bytes,
  pub asked-narrow : width ≤ entry_bytes
  asked-narrow = rw asked.width_is (entry-short slot)

  -- and the line is not too long.
  pub asked-short : 2 * (head.count + width + 1) ≤ longest_line
  asked-short = rw (asked.count-is, asked.width_is) (frame-short d asked.set.legal slot)

  -- The line has two digits for each byte of the frame and for the sum byte.
  pub asked-length : length (line_at d initial offsets n) ≡ 2 * (head.count + width + 1)
  unfolding line_at
  asked-length =
      rw (asked.count-is, asked.width_is, asked.slot_is)
      (line-length (frame_of d (slot_of d n) initial offsets)
      ∙ ap (λ count. 2 * (count + 1)) (frame-length d (slot_of d n) initial offsets))

  -- Where the entry passes, 14 decides,
  pub asked-room : (buffer : ℕ) (short : Bool) → verdict (asked_checks d slot initial offsets) ≡ Ok tt
      → ltb buffer (2 * (head.count + width + 1)) ≡ short
      → write_verdict d initial offsets n buffer ≡ verdict (short ↝ Cause.OutputShort ∷ [])
  asked-room buffer short e room =
      within-set d initial offsets n buffer asked.set asked.within ∙ rw (← asked.slot_is, e, asked-length, room)

  -- and the line is that of the frame with the entry behind what it has.
  pub asked-line : {frame : List ℕ} {number : ℕ} → frame ≡ held head ++ big_endian width number
      → number ≡ entry_number slot initial offsets → line_of frame ≡ line_at d initial offsets n
  unfolding line_at frame_of
  asked-line frame_is number_is = rw (frame_is, asked.head-is, number_is, asked.width_is, asked.slot_is)

-- The answer, what it tells and what is left in the buffer, by the verdict on what is asked for, which is a line here
module _ (v : Verdict) (line buffer : List ℕ) where
  abbrev pub PromisedBy : Result ℕ Cause → List ℕ → Type 0
  PromisedBy r left = (r ≡ written_if v line) × ((told_by r ≡ told v (length line)) × (left ≡ leaves v line buffer))

  -- A refusal leaves the buffer as it was,
  pub refuses-by : {cause : Cause} → v ≡ Err cause → PromisedBy (Err cause) buffer
  refuses-by e = rw e (refl, (refl, refl))

  -- and otherwise the line stands at its start.
  pub writes-by : {count : ℕ} {left : List ℕ} → v ≡ Ok tt → length line ≡ count → left ≡ over buffer 0 line
      → PromisedBy (Ok count) left
  writes-by e count-is left_is = rw e (rw count-is refl, (rw count-is refl, left_is ∙ over-start buffer line))

module _ (d : Design) (initial : List ℕ) (offsets : List ℤ) (n : ℕ) (buffer : List ℕ) where
  -- What is promised of an answer and of what the line buffer is left with
  abbrev pub Promised : Result ℕ Cause → List ℕ → Type 0
  Promised r left = record {
    answer : r ≡ write_answer d initial offsets n (length buffer);
    told : told_by r ≡ write_told d initial offsets n (length buffer);
    line_buffer : left ≡ buffer_after d initial offsets n buffer;
  }

  pub refuses : {cause : Cause} → write_verdict d initial offsets n (length buffer) ≡ Err cause
      → Promised (Err cause) buffer
  unfolding write_answer buffer_after write_told
  refuses e =
      let p = refuses-by _ (line_at d initial offsets n) buffer e in
      record { answer = p.0; told = p.1.0; line_buffer = p.1.1 }

  pub writes : {count : ℕ} {left : List ℕ} → write_verdict d initial offsets n (length buffer) ≡ Ok tt
      → length (line_at d initial offsets n) ≡ count → left ≡ over buffer 0 (line_at d initial offsets n)
      → Promised (Ok count) left
  unfolding write_answer buffer_after write_told
  writes e count-is left_is =
      let p = writes-by _ (line_at d initial offsets n) buffer e count-is left_is in
      record { answer = p.0; told = p.1.0; line_buffer = p.1.1 }
