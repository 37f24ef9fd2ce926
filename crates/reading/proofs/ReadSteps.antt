-- What a line comes to, sound or not: the next state or the refusal, and the tables after it.
use Rattle.std.specs.Prelude.{Result, Ok, Err}
use mathlib.Core.Path.{◌≡◌, refl, ap, ◌∙◌}
use mathlib.Core.Bool.{true, false}
use mathlib.Core.List.{List, [], ◌∷◌, ◌++◌}
use Prim.Native.Nat.{ℕ, ◌-◌}
use lib.IntN.{ℤ}
use lib.ListN.{length, take, replicate}
use lib.Seq.{take-append_seam}
use Rattle.refusal.specs.declared.Cause.{Cause}
use Rattle.refusal.specs.Verdict.{Verdict}
use Rattle.refusal.specs.Checks.{verdict, if_passed, answer}
use Rattle.refusal.proofs.Checks.{verdict-append, none-fails}
use Rattle.frames.specs.declared.Decoded.{Decoded}
use Rattle.frames.specs.Hex.{bytes_of}
use Rattle.frames.specs.Line.{is_empty, line_checks, capacity, padded, decoded}
use Rattle.frames.proofs.LineLaws.{bytes-short, line-passed, held_whole}
use Rattle.lines.specs.declared.Slot.{Slot}
use Rattle.lines.specs.Slots.{slot_of}
use Rattle.lines.proofs.SlotLaws.{slot-first}
use Rattle.reading.specs.declared.Reading.{Reading}
use Rattle.reading.specs.declared.Read.{Read}
use Rattle.reading.specs.Inputs.{Sound}
use Rattle.reading.specs.ReadLine.{
  possible,
  state_check,
  empty_check,
  design_after,
  due_checks,
  due_verdict,
  read_verdict,
  next_state,
  none_taken,
  Session,
  read_answer,
  initial_stored,
  offsets_stored,
  session,
  moved_if,
  moved_by,
  after_frame,
  verdict_on,
  after,
}
use Rattle.reading.proofs.ReadLaws.{empty-verdict, some-verdict}
use Rattle.reading.proofs.LineSteps.{Outcome}

-- What `decode` gives for a line that it accepts
module _ (line : List ℕ) (held : Decoded) (accepted : decoded line ≡ Ok held) where
  front : take (length (bytes_of line)) (padded (bytes_of line)) ≡ bytes_of line
  unfolding padded
  front = take-append_seam (bytes_of line) (replicate (capacity - length (bytes_of line)) 0)

  pub frame-held : take held.count held.bytes ≡ bytes_of line
  frame-held = rw (held_whole line held accepted) front

  pub sound-held : Sound held.bytes held.count
  unfolding line_checks
  sound-held =
      rw (held_whole line held accepted)
      (record { short = bytes-short line (none-fails (line_checks line) (line-passed line held accepted)).0; zeros = rw front })

-- What the reading of a line has to come to: this next state or refusal, and these tables
abbrev pub LineOutcome : Reading → List ℕ → List ℤ → List ℕ → Result Reading Cause → List ℕ → List ℤ → Type 0
LineOutcome state initial offsets line result initial-after offsets-after =
    let s = session state initial offsets in
    let next = after s line in
    record {
      value : result ≡ answer (verdict_on s line) (moved_by s line).state;
      initial_table : initial-after ≡ next.initial;
      offset_tables : offsets-after ≡ next.offsets;
    }

module _ (state : Reading) (initial : List ℕ) (offsets : List ℤ) (line : List ℕ) where
  line_refused : (cause : Cause) → read_verdict state (length initial) (length offsets) line ≡ Err cause
      → LineOutcome state initial offsets line (Err cause) initial offsets
  unfolding after verdict_on
  line_refused cause e = rw e (record { value = refl; initial_table = refl; offset_tables = refl })

  -- The state is not possible.
  pub impossible : possible state ≡ false → LineOutcome state initial offsets line (Err Cause.State) initial offsets
  unfolding read_verdict state_check
  impossible e = line_refused Cause.State (rw e)

  module _ (possible-state : possible state ≡ true) where
    -- The line is empty: both tables stand, whatever the verdict is.
    module _ (empty : is_empty line ≡ true) where
      state-decides : read_verdict state (length initial) (length offsets) line ≡ verdict (empty_check state ∷ [])
      unfolding state_check
      state-decides = empty-verdict state (length initial) (length offsets) line empty ∙ rw possible-state

      pub empty-outcome : (result : Result Reading Cause) → result ≡ answer (verdict (empty_check state ∷ [])) (none_taken state)
          → LineOutcome state initial offsets line result initial offsets
      unfolding after verdict_on
      empty-outcome result is = go (verdict (empty_check state ∷ [])) refl
        where
          go : (v : Verdict) → verdict (empty_check state ∷ []) ≡ v → LineOutcome state initial offsets line result initial offsets
          go (Ok tt) e = rw (is, state-decides, e, empty) (record { value = refl; initial_table = refl; offset_tables = refl })
          go (Err cause) e = rw (is, state-decides, e) (record { value = refl; initial_table = refl; offset_tables = refl })

    module _ (some : is_empty line ≡ false) where
      tried : read_verdict state (length initial) (length offsets) line
          ≡ verdict (line_checks line ++ due_checks state (length initial) (length offsets) (bytes_of line))
      unfolding state_check
      tried = some-verdict state (length initial) (length offsets) line some ∙ rw possible-state

      -- The line is not sound.
      pub unsound : (cause : Cause) → verdict (line_checks line) ≡ Err cause
          → LineOutcome state initial offsets line (Err cause) initial offsets
      unsound cause e =
          line_refused cause
          (tried ∙ rw (verdict-append (line_checks line) (due_checks state (length initial) (length offsets) (bytes_of line)), e))

      -- A sound line comes to what its frame comes to.
      module _ (sound : verdict (line_checks line) ≡ Ok tt) where
        frame-decides : read_verdict state (length initial) (length offsets) line
            ≡ due_verdict state (length initial) (length offsets) (bytes_of line)
        unfolding due_verdict
        frame-decides =
            tried
            ∙ rw (verdict-append (line_checks line) (due_checks state (length initial) (length offsets) (bytes_of line)), sound)

        pub line-outcome : (result : Result Reading Cause) (initial-after : List ℕ) (offsets-after : List ℤ)
            → Outcome state initial offsets (bytes_of line) result initial-after offsets-after
            → LineOutcome state initial offsets line result initial-after offsets-after
        unfolding after verdict_on after_frame
        line-outcome result initial-after offsets-after o =
            rw (frame-decides, some)
            (record { value = o.value; initial_table = o.initial_after; offset_tables = o.offsets_after })

-- What `read_line` makes of the next state or the refusal: a refusal "gives back the state that came in".
abbrev pub read_of : Reading → Result Reading Cause → Read
read_of came (Ok next) = record { verdict = Ok tt; state = next }
read_of came (Err cause) = record { verdict = Err cause; state = came }

module _ (s : Session) (line : List ℕ) where
  read-by : (v : Verdict) → read_of s.state (answer v (moved_by s line).state)
      ≡ record { verdict = v; state = (if_passed v (moved_by s line) (λ cause. s)).state }
  read-by (Ok tt) = refl
  read-by (Err cause) = refl

  pub read-told : {result : Result Reading Cause} → result ≡ answer (verdict_on s line) (moved_by s line).state
      → read_of s.state result ≡ read_answer s line
  unfolding read_answer after
  read-told e = ap (read_of s.state) e ∙ read-by (verdict_on s line)

-- The first line stores nothing.
module _ (state : Reading) (none : state.taken ≡ 0) (initial : List ℕ) (offsets : List ℤ) (frame : List ℕ) where
  no-entry : slot_of (design_after state frame) state.taken ≡ Slot.Design
  no-entry = ap (slot_of (design_after state frame)) none ∙ slot-first (design_after state frame)

  tables-kept : (v : Verdict) → let next = moved_if v (session state initial offsets) frame in
      (initial ≡ next.initial) × (offsets ≡ next.offsets)
  unfolding initial_stored offsets_stored
  tables-kept (Ok tt) = rw no-entry (refl, refl)
  tables-kept (Err cause) = (refl, refl)

  pub first-outcome : (result : Result Reading Cause)
      → result ≡ answer (due_verdict state (length initial) (length offsets) frame) (next_state state frame)
      → Outcome state initial offsets frame result initial offsets
  unfolding after_frame
  first-outcome result is =
      let kept = tables-kept (due_verdict state (length initial) (length offsets) frame) in
      record { value = is; initial_after = kept.0; offsets_after = kept.1 }
