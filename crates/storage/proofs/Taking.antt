-- The law of lines the other way round: the writer's line is accepted, and stores the writer's entry.
use Rattle.std.specs.Prelude.{Ok}
use mathlib.Core.Path.{◌≡◌, ap, ◌∙◌}
use mathlib.Core.Bool.{true, false}
use mathlib.Core.List.{List, [], ◌∷◌, ◌++◌, append-nil, append_assoc}
use Prim.Native.Nat.{ℕ, ◌+◌, ◌≤◌, ◌<◌}
use native.Mathlib.Nat.{le_of_lt}
use native.Mathlib.Omega.{arith}
use lib.ListN.{length}
use lib.Seq.{take_at, drop-append_seam}
use lib.IntN.{ℤ}
use borrow.Author.Tests.{eq-eqb}
use Rattle.design.specs.declared.Design.{Design}
use Rattle.design.specs.Stored.{initial_count, offset_total}
use Rattle.design.specs.Legal.{Legal}
use Rattle.tables.specs.Inputs.{Usable}
use Rattle.tables.proofs.SetLaws.{tables-long}
use Rattle.frames.specs.Hex.{bytes_of}
use Rattle.frames.specs.Line.{is_empty, line_fails}
use Rattle.frames.specs.DesignFrame.{frame_design}
use Rattle.frames.proofs.LineLaws.{sound-some}
use Rattle.encoding.specs.Bytes.{big_endian}
use Rattle.encoding.specs.Encode.{sum_byte, with_sum}
use Rattle.encoding.specs.DesignBytes.{design_bytes}
use Rattle.encoding.proofs.NumberBack.{big-endian-length, number-back}
use Rattle.encoding.proofs.LineBack.{with-sum-length, line-sound, line-back}
use Rattle.encoding.proofs.DesignBack.{design-passes, design-back}
use Rattle.lines.specs.declared.Slot.{Slot}
use Rattle.lines.specs.Slots.{line_count, slot_of}
use Rattle.lines.specs.Lines.{frame_head, entry_width, entry_number, entry_fits, frame_of, line_at}
use Rattle.lines.proofs.SlotLaws.{slot-first}
use Rattle.lines.proofs.FrameLaws.{frame-length, frame-short, frame_small, entry_lt}
use Rattle.writing.proofs.WriteLaws.{Carried}
use Rattle.reading.specs.declared.Reading.{Reading}
use Rattle.reading.specs.ReadLine.{Session, session, begins, head_fails, entry_in, initial_stored, offsets_stored, verdict_on, after}
use Rattle.reading.proofs.BeginsLaws.{begins-append}
use Rattle.reading.proofs.ReadLaws.{passed, begun-possible, first-possible, first-design, later-design, first-passed, later-passed}
use Rattle.storage.proofs.SameDesigns.{initial-count-same, offset-total-same, answers-same}

-- A frame of a set: it begins as it should, and its entry is read as it was written.
module _ (d : Design) (slot : Slot) (initial : List ℕ) (offsets : List ℤ) where
  abbrev frame : List ℕ
  frame = frame_of d slot initial offsets

  abbrev written : List ℕ
  written = big_endian (entry_width slot) (entry_number slot initial offsets)

  parts : with_sum frame ≡ frame_head d slot ++ (written ++ (sum_byte frame ∷ []))
  unfolding with_sum frame_of
  parts = append_assoc (frame_head d slot) written (sum_byte frame ∷ [])

  head-passes : head_fails (frame_head d slot) (entry_width slot) (with_sum frame) (length (with_sum frame)) ≡ false
  unfolding head_fails
  head-passes =
      let count : length (with_sum frame) ≡ length (frame_head d slot) + entry_width slot + 1 =
      omega (arith, with-sum-length frame, frame-length d slot initial offsets) in
      let head : begins (with_sum frame) (frame_head d slot) ≡ true = rw parts (begins-append (frame_head d slot) _) in
      rw (eq-eqb _ _ count, head)

  entry-back : entry_fits slot initial offsets ≡ true → entry_in d slot (with_sum frame) ≡ entry_number slot initial offsets
  unfolding entry_in
  entry-back h =
      let number = entry_number slot initial offsets in
      rw (
        parts,
        drop-append_seam (frame_head d slot) (written ++ (sum_byte frame ∷ [])),
        take_at written (sum_byte frame ∷ []) (entry_width slot) (big-endian-length (entry_width slot) number),
      )
      (number-back (entry_width slot) number (entry_lt slot initial offsets h))

-- A line of a legal design's set is sound, and its bytes are those of its frame.
module _ (d : Design) (legal : Legal d) (initial : List ℕ) (offsets : List ℤ) (n : ℕ) where
  line-bytes : bytes_of (line_at d initial offsets n) ≡ with_sum (frame d (slot_of d n) initial offsets)
  unfolding line_at
  line-bytes = line-back _ (frame_small d (slot_of d n) initial offsets legal)

  sound : line_fails (line_at d initial offsets n) ≡ false
  unfolding line_at
  sound =
      line-sound _ (frame_small d (slot_of d n) initial offsets legal)
      (rw (frame-length d (slot_of d n) initial offsets) (frame-short d legal (slot_of d n)))

  pub not-empty : is_empty (line_at d initial offsets n) ≡ false
  not-empty = sound-some (line_at d initial offsets n) sound

-- A later line: in a possible state with a line taken, the line that is due
module _ (d : Design) (n : ℕ) (initial set-initial : List ℕ) (offsets set-offsets : List ℤ) (some : 0 < n) (within : n < line_count d)
    (tables : Usable d (length initial) (length offsets)) (entry : Carried d (slot_of d n) set-initial set-offsets) where
  abbrev state : Reading
  state = record { design = d; taken = n }

  abbrev line : List ℕ
  line = line_at d set-initial set-offsets n

  pub later-passes : verdict_on (session state initial offsets) line ≡ Ok tt
  unfolding verdict_on
  later-passes =
      let bytes = line-bytes d tables.legal set-initial set-offsets n in
      passed state (length initial) (length offsets) line (record {
        state-possible = begun-possible state (record { some = some; legal = tables.legal; within = le_of_lt within });
        line-sound = sound d tables.legal set-initial set-offsets n;
        frame-passed =
            rw bytes
            (later-passed state (length initial) (length offsets) _ some (record {
              within = within;
              head = head-passes d (slot_of d n) set-initial set-offsets;
              below = rw (entry-back d (slot_of d n) set-initial set-offsets entry.fits) entry.below;
              tables = tables-long d _ _ tables;
            }));
      })

  pub later-taken : let v = entry_number (slot_of d n) set-initial set-offsets in
      after (session state initial offsets) line
      ≡ session (record { design = d; taken = n + 1 }) (initial_stored (slot_of d n) v initial) (offsets_stored (slot_of d n) v offsets)
  unfolding after
  later-taken =
      rw (
        later-passes,
        not-empty d tables.legal set-initial set-offsets n,
        line-bytes d tables.legal set-initial set-offsets n,
        later-design state (with_sum (frame d (slot_of d n) set-initial set-offsets)) some,
        entry-back d (slot_of d n) set-initial set-offsets entry.fits,
      )

-- The first line, with no line taken, into tables long enough
module _ (d : Design) (legal : Legal d) (set-initial : List ℕ) (set-offsets : List ℤ) (s : Session) (none : s.state.taken ≡ 0)
    (initial-long : initial_count d ≤ length s.initial) (offsets-long : offset_total d ≤ length s.offsets) where
  -- the design as its line gives it
  abbrev pub given : Design
  given = frame_design (with_sum (design_bytes d))

  pub given-usable : Usable given (length s.initial) (length s.offsets)
  given-usable =
      let same = design-back d legal in
      record {
        legal = (answers-same given d same).design ∙ legal;
        initial-long = rw (initial-count-same given d same) initial-long;
        offsets-long = rw (offset-total-same given d same) offsets-long;
      }

  first_frame : frame d (slot_of d 0) set-initial set-offsets ≡ design_bytes d
  unfolding frame_of frame_head entry_width big_endian
  first_frame = rw (slot-first d) (append-nil (design_bytes d))

  first-bytes : bytes_of (line_at d set-initial set-offsets 0) ≡ with_sum (design_bytes d)
  first-bytes = line-bytes d legal set-initial set-offsets 0 ∙ ap with_sum first_frame

  pub first_passes : verdict_on s (line_at d set-initial set-offsets 0) ≡ Ok tt
  unfolding verdict_on
  first_passes =
      passed s.state (length s.initial) (length s.offsets) _ (record {
        state-possible = first-possible s.state none;
        line-sound = sound d legal set-initial set-offsets 0;
        frame-passed =
            rw first-bytes
            (first-passed s.state (length s.initial) (length s.offsets) _ none (record {
              frame = design-passes d legal given-usable.legal;
              tables = given-usable;
            }));
      })

  pub first_taken : after s (line_at d set-initial set-offsets 0) ≡ session (record { design = given; taken = 1 }) s.initial s.offsets
  unfolding after initial_stored offsets_stored
  first_taken =
      rw (
        first_passes,
        not-empty d legal set-initial set-offsets 0,
        first-bytes,
        first-design s.state (with_sum (design_bytes d)) none,
        none,
        slot-first given,
      )
