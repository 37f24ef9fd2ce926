-- What a sound line comes to: the next state or the refusal, and the tables after it. The line is given as `decode` does, as its bytes with zeros behind
-- them and their number.
use Rattle.std.specs.Prelude.{Result, Ok, Err}
use mathlib.Core.Path.{◌≡◌, refl, sym, ap, ◌∙◌}
use mathlib.Core.Bool.{Bool, true, false, not, ◌||◌, or-true}
use mathlib.Core.List.{List, [], ◌∷◌}
use Prim.Native.Nat.{ℕ, zero, suc, ◌+◌, ◌≤◌, ◌<◌}
use native.Mathlib.Omega.{arith}
use lib.Dec.{leb, eqb}
use lib.IntN.{ℤ}
use lib.ListN.{length, take, drop}
use lib.Seq.{take-take, take-nil, length-take-le}
use borrow.Author.Tests.{eqb-true, le-leb, lt-leb, not-false}
use Rattle.general.proofs.Tests.{neither}
use Rattle.refusal.specs.declared.Cause.{Cause}
use Rattle.refusal.specs.Checks.{◌↝◌, verdict, answer}
use Rattle.refusal.proofs.Checks.{after, verdict-append}
use Rattle.design.specs.declared.Design.{Design}
use Rattle.tables.specs.Set.{tables_check}
use Rattle.frames.specs.DesignFrame.{frame_design, first_checks}
use Rattle.frames.specs.Line.{capacity}
use Rattle.frames.proofs.FrameLaws.{frame_design-padded, first_checks-padded}
use Rattle.encoding.specs.Bytes.{number_in}
use Rattle.lines.specs.declared.Slot.{Slot}
use Rattle.lines.specs.Slots.{line_count, slot_of}
use Rattle.lines.specs.Lines.{frame_head, entry_width}
use Rattle.reading.specs.declared.Reading.{Reading}
use Rattle.reading.specs.Inputs.{Sound, Begun}
use Rattle.reading.specs.ReadLine.{
  head_fails,
  due_verdict,
  next_state,
  entry_in,
  initial_stored,
  offsets_stored,
  session,
  after_frame,
}
use Rattle.reading.proofs.BeginsLaws.{begins-front}
use Rattle.reading.proofs.ReadLaws.{not_due, is_over, first-design, later-design, first-checks, later-checks}

-- Bytes within the first `count` are the same among these as among all.
within-front : (bytes : List ℕ) (count from n : ℕ) → from + n ≤ count → take n (drop from (take count bytes)) ≡ take n (drop from bytes)
within-front bytes count zero n h = take-take n count bytes (omega arith)
within-front [] count (suc from) n h = rw (take-nil {A = ℕ} count)
within-front (byte ∷ bytes) zero (suc from) n h = absurd (omega arith)
within-front (byte ∷ bytes) (suc count) (suc from) n h = within-front bytes count from n (omega arith)

-- A frame of the right number of bytes has the head that is due where all bytes have it; one of another number is not due at all.
heads-same : (head : List ℕ) (width : ℕ) (bytes : List ℕ) (count : ℕ)
    → head_fails head width (take count bytes) count ≡ head_fails head width bytes count
unfolding head_fails
heads-same head width bytes count = go (eqb count (length head + width + 1)) refl
  where
    go : (right : Bool) → eqb count (length head + width + 1) ≡ right
        → head_fails head width (take count bytes) count ≡ head_fails head width bytes count
    go true e = rw (begins-front bytes head count (omega (arith, eqb-true count (length head + width + 1) e)))
    go false e = rw e

module _ (bytes : List ℕ) (count : ℕ) (full : length bytes ≡ capacity) (sound : Sound bytes count) where
  frame-length : length (take count bytes) ≡ count
  frame-length = length-take-le count bytes (omega (arith, sound.short))

  -- The zeros behind a frame change nothing of the design in it.
  checks-same : first_checks (take count bytes) count ≡ first_checks bytes count
  checks-same = sym (first_checks-padded (take count bytes) count) ∙ ap (λ (l : List ℕ). first_checks l count) (sym sound.zeros)

  design-same : frame_design (take count bytes) ≡ frame_design bytes
  design-same = sym (frame_design-padded (take count bytes)) ∙ ap frame_design (sym sound.zeros)

  -- The first line is tried as the first frame, and then for the tables' lengths.
  module _ (state : Reading) (none : state.taken ≡ 0) (initial offsets : ℕ) where
    first-verdict : due_verdict state initial offsets (take count bytes)
        ≡ after (verdict (first_checks bytes count)) (verdict (tables_check (frame_design bytes) initial offsets ∷ []))
    unfolding due_verdict
    first-verdict =
        rw (first-checks state initial offsets (take count bytes) none, frame-length, checks-same, design-same)
        (verdict-append (first_checks bytes count) (tables_check (frame_design bytes) initial offsets ∷ []))

    -- the next state or the refusal
    abbrev comes : Result Reading Cause
    comes = answer (due_verdict state initial offsets (take count bytes)) (next_state state (take count bytes))

    pub first-refused : (cause : Cause) → verdict (first_checks bytes count) ≡ Err cause → Err cause ≡ comes
    first-refused cause e = rw (first-verdict, e)

    module _ (due : verdict (first_checks bytes count) ≡ Ok tt) where
      pub first_short : (tables_check (frame_design bytes) initial offsets).fails ≡ true → Err Cause.TablesShort ≡ comes
      unfolding tables_check
      first_short e = rw (first-verdict, due, e)

      pub first-accepted : (tables_check (frame_design bytes) initial offsets).fails ≡ false
          → ◌≡◌ {A = Result Reading Cause} (Ok (record { design = frame_design bytes; taken = 1 })) comes
      first-accepted e = rw (first-verdict, due, e, first-design state (take count bytes) none, design-same, none)

-- What the reading of a frame has to come to: this next state or refusal, and these tables
abbrev pub Outcome : Reading → List ℕ → List ℤ → List ℕ → Result Reading Cause → List ℕ → List ℤ → Type 0
Outcome state initial offsets frame result initial-after offsets-after =
    let next = after_frame (session state initial offsets) frame in
    record {
      value : result ≡ answer (due_verdict state (length initial) (length offsets) frame) (next_state state frame);
      initial_after : initial-after ≡ next.initial;
      offsets_after : offsets-after ≡ next.offsets;
    }

module _ (state : Reading) (initial : List ℕ) (offsets : List ℤ) (frame : List ℕ) where
  pub refused-outcome : (cause : Cause) → due_verdict state (length initial) (length offsets) frame ≡ Err cause
      → Outcome state initial offsets frame (Err cause) initial offsets
  unfolding after_frame
  refused-outcome cause e = rw e (record { value = refl; initial_after = refl; offsets_after = refl })

-- The number in an entry's bytes, which lie within the frame
entry-same : (d : Design) (slot : Slot) (bytes : List ℕ) (count : ℕ) → length (frame_head d slot) + entry_width slot ≤ count
    → entry_in d slot (take count bytes) ≡ entry_in d slot bytes
unfolding entry_in
entry-same d slot bytes count h = ap number_in (within-front bytes count (length (frame_head d slot)) (entry_width slot) h)

-- A frame that is due has room for its entry.
due-long : (head : List ℕ) (width : ℕ) (bytes : List ℕ) (count : ℕ) → head_fails head width bytes count ≡ false
    → length head + width ≤ count
unfolding head_fails
due-long head width bytes count e =
    let due = length head + width + 1 in
    omega (arith, eqb-true count due (not-false (eqb count due) (neither (not (eqb count due)) _ e).0))

-- The entry of a frame that is due, by all bytes
due-entry : (state : Reading) (bytes : List ℕ) (count : ℕ) → not_due state bytes count ≡ false
    → let slot = slot_of state.design state.taken in
    entry_in state.design slot (take count bytes) ≡ entry_in state.design slot bytes
due-entry state bytes count due =
    let slot = slot_of state.design state.taken in
    entry-same state.design slot bytes count (due-long (frame_head state.design slot) (entry_width slot) bytes count due)

-- A later line is tried for the frame that is due, then for the limit on its entry, and then for the tables' lengths.
module _ (bytes : List ℕ) (count : ℕ) (full : length bytes ≡ capacity) (sound : Sound bytes count) (state : Reading) (begun : Begun state)
    (initial offsets : ℕ) where
  later-verdict : due_verdict state initial offsets (take count bytes)
      ≡ verdict
      ((leb (line_count state.design) state.taken || not_due state bytes count) ↝ Cause.Frame
      ∷ is_over state (take count bytes) ↝ Cause.InitialRange ∷ tables_check state.design initial offsets ∷ [])
  unfolding due_verdict
  later-verdict =
      let slot = slot_of state.design state.taken in
      rw (
        later-checks state initial offsets (take count bytes) begun.some,
        frame-length bytes count full sound,
        heads-same (frame_head state.design slot) (entry_width slot) bytes count,
      )

  pub nothing-due : line_count state.design ≤ state.taken
      → due_verdict state initial offsets (take count bytes) ≡ Err Cause.Frame
  nothing-due h = later-verdict ∙ rw (le-leb _ _ h)

  pub other-due : not_due state bytes count ≡ true → due_verdict state initial offsets (take count bytes) ≡ Err Cause.Frame
  other-due e = later-verdict ∙ rw (e, or-true)

  module _ (within : state.taken < line_count state.design) (due : not_due state bytes count ≡ false) where
    over-same : {over : Bool} → is_over state bytes ≡ over → is_over state (take count bytes) ≡ over
    over-same e = rw (due-entry state bytes count due) e

    pub later-over : is_over state bytes ≡ true → due_verdict state initial offsets (take count bytes) ≡ Err Cause.InitialRange
    later-over e = later-verdict ∙ rw (lt-leb _ _ within, due, over-same e)

    module _ (below : is_over state bytes ≡ false) where
      pub later-short : (tables_check state.design initial offsets).fails ≡ true
          → due_verdict state initial offsets (take count bytes) ≡ Err Cause.TablesShort
      unfolding tables_check
      later-short e = later-verdict ∙ rw (lt-leb _ _ within, due, over-same below, e)

      pub later-accepted : (tables_check state.design initial offsets).fails ≡ false
          → due_verdict state initial offsets (take count bytes) ≡ Ok tt
      later-accepted e = later-verdict ∙ rw (lt-leb _ _ within, due, over-same below, e)

-- The answer to a frame that is accepted, and the tables after it
module _ (state : Reading) (begun : Begun state) (initial : List ℕ) (offsets : List ℤ) (bytes : List ℕ) (count : ℕ) where
  pub accepted-outcome : not_due state bytes count ≡ false
      → due_verdict state (length initial) (length offsets) (take count bytes) ≡ Ok tt
      → let slot = slot_of state.design state.taken in
      let number = entry_in state.design slot bytes in
      Outcome state initial offsets (take count bytes)
      (Ok (record { design = state.design; taken = state.taken + 1 }))
      (initial_stored slot number initial)
      (offsets_stored slot number offsets)
  unfolding after_frame
  accepted-outcome due e =
      rw (e, later-design state (take count bytes) begun.some, due-entry state bytes count due)
      (record { value = refl; initial_after = refl; offsets_after = refl })
