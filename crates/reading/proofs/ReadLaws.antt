-- What is tried on a first line and on a later one, and what a line that passes tells.
use Rattle.std.specs.Prelude.{Ok, Err}
use mathlib.Core.Path.{◌≡◌, refl, sym, ap, ◌∙◌}
use mathlib.Core.Bool.{Bool, true, false, ◌||◌, ◌&&◌, true≢false, or-true}
use mathlib.Core.List.{List, [], ◌∷◌, ◌++◌}
use Prim.Native.Nat.{ℕ, ◌<◌}
use native.Mathlib.Omega.{arith}
use lib.Dec.{leb, eqb}
use lib.ListN.{length}
use borrow.Author.Tests.{leb-true, leb-false, le-leb, lt-leb, eqb-true, eq-eqb, ne_eqb, not-false}
use Rattle.general.proofs.Tests.{neither, both}
use Rattle.refusal.specs.declared.Cause.{Cause}
use Rattle.refusal.specs.Verdict.{Verdict}
use Rattle.refusal.specs.Checks.{Check, ◌↝◌, verdict, passes}
use Rattle.refusal.proofs.Checks.{none-fails, passed-append, verdict-append}
use Rattle.refusal.proofs.Answers.{only-passed}
use Rattle.design.specs.Legal.{design_verdict, Legal}
use Rattle.tables.specs.Inputs.{Usable}
use Rattle.tables.specs.Set.{tables_check}
use Rattle.tables.proofs.SetLaws.{usable, set-lengths, tables-long}
use Rattle.frames.specs.Hex.{bytes_of}
use Rattle.frames.specs.Line.{is_empty, line_fails, line_checks}
use Rattle.frames.specs.DesignFrame.{frame_design, first_checks}
use Rattle.frames.proofs.FrameLaws.{first_frame}
use Rattle.frames.proofs.LineLaws.{sound-some}
use Rattle.lines.specs.Slots.{line_count, slot_of}
use Rattle.lines.specs.Lines.{frame_head, entry_width, entry_over}
use Rattle.reading.specs.declared.Reading.{Reading}
use Rattle.reading.specs.Inputs.{Begun}
use Rattle.reading.specs.ReadLine.{
  possible,
  finished,
  state_check,
  between,
  empty_check,
  design_after,
  head_fails,
  later_fails,
  entry_in,
  later_checks,
  due_checks,
  read_verdict,
}

-- A later frame is not the one due, by its bytes and their number.
abbrev pub not_due : Reading → List ℕ → ℕ → Bool
not_due state bytes count =
    let slot = slot_of state.design state.taken in
    head_fails (frame_head state.design slot) (entry_width slot) bytes count

-- The entry in it is an initial entry at the limit on sums or beyond it.
abbrev pub is_over : Reading → List ℕ → Bool
is_over state bytes =
    let slot = slot_of state.design state.taken in
    entry_over state.design slot (entry_in state.design slot bytes)

module _ (state : Reading) where
  -- the design that counts
  pub first-design : (bytes : List ℕ) → state.taken ≡ 0 → design_after state bytes ≡ frame_design bytes
  unfolding design_after
  first-design bytes e = rw e

  pub later-design : (bytes : List ℕ) → 0 < state.taken → design_after state bytes ≡ state.design
  unfolding design_after
  later-design bytes h = rw (ne_eqb state.taken 0 (λ z. omega arith))

  -- the checks on a sound line
  module _ (initial offsets : ℕ) (bytes : List ℕ) where
    pub first-checks : state.taken ≡ 0
        → due_checks state initial offsets bytes ≡ first_checks bytes (length bytes) ++ tables_check (frame_design bytes) initial offsets ∷ []
    unfolding due_checks
    first-checks e = rw (first-design bytes e, e)

    abbrev pub all_later : List Check
    all_later =
        (leb (line_count state.design) state.taken || not_due state bytes (length bytes)) ↝ Cause.Frame
        ∷ is_over state bytes ↝ Cause.InitialRange ∷ tables_check state.design initial offsets ∷ []

    pub later-checks : 0 < state.taken → due_checks state initial offsets bytes ≡ all_later
    unfolding due_checks later_checks later_fails
    later-checks h = rw (later-design bytes h, ne_eqb state.taken 0 (λ z. omega arith))

  -- the state
  pub first-possible : state.taken ≡ 0 → possible state ≡ true
  unfolding possible
  first-possible e = rw e

  pub later-possible : 0 < state.taken
      → possible state ≡ passes (design_verdict state.design) && leb state.taken (line_count state.design)
  unfolding possible
  later-possible h = rw (ne_eqb state.taken 0 (λ z. omega arith))

passes-passed : (v : Verdict) → passes v ≡ true → v ≡ Ok tt
passes-passed v e = only-passed (λ (answer : Bool). answer ≡ true) v true (λ cause. false) (λ cause f. true≢false (sym f)) e

-- A number that equals another is at most that.
within-equal : (n m : ℕ) → eqb n m ≡ leb n m && eqb n m
within-equal n m = either (eqb n m) refl
  where
    either : (b : Bool) → eqb n m ≡ b → eqb n m ≡ leb n m && eqb n m
    either true e = rw (e, le-leb n m (omega (arith, eqb-true n m e)))
    either false e = rw e (none (leb n m))
      where
        none : (b : Bool) → false ≡ b && false
        none true = refl
        none false = refl

-- A possible state in which a line is taken
module _ (state : Reading) where
  pub begun : 0 < state.taken → possible state ≡ true → Begun state
  begun h e =
      let parts = both (passes (design_verdict state.design)) _ (sym (later-possible state h) ∙ e) in
      record {
        some = h;
        legal = passes-passed _ parts.0;
        within = leb-true _ _ parts.1;
      }

  pub begun-possible : Begun state → possible state ≡ true
  begun-possible b = later-possible state b.some ∙ rw (b.legal, le-leb _ _ b.within)

-- A finished reading
module _ (state : Reading) where
  pub not-begun : state.taken ≡ 0 → finished state ≡ false
  unfolding finished line_count
  not-begun e = rw (first-possible state e, ne_eqb state.taken (line_count state.design) (λ z. omega arith))

  pub not-possible : possible state ≡ false → finished state ≡ false
  unfolding finished
  not-possible e = rw e

  pub by_count : possible state ≡ true → finished state ≡ eqb state.taken (line_count state.design)
  unfolding finished
  by_count e = rw e

  -- With lines taken it goes by the design and by their number.
  pub legal-finish : 0 < state.taken → Legal state.design → eqb state.taken (line_count state.design) ≡ finished state
  unfolding finished
  legal-finish h legal = rw (later-possible state h, legal) (within-equal state.taken (line_count state.design))

  pub illegal-finish : 0 < state.taken → (cause : Cause) → design_verdict state.design ≡ Err cause → false ≡ finished state
  unfolding finished
  illegal-finish h cause e = rw (later-possible state h, e)

  -- has taken all lines, and the other way round.
  pub all-taken : finished state ≡ true → state.taken ≡ line_count state.design
  unfolding finished
  all-taken e = eqb-true state.taken (line_count state.design) (both (possible state) _ e).1

  pub finished-at-end : Begun state → state.taken ≡ line_count state.design → finished state ≡ true
  finished-at-end b e = by_count (begun-possible state b) ∙ eq-eqb state.taken (line_count state.design) e

-- An empty line is tried by the state alone, any other for what stands on it.
module _ (state : Reading) (initial offsets : ℕ) (line : List ℕ) where
  pub empty-verdict : is_empty line ≡ true → read_verdict state initial offsets line ≡ verdict (state_check state ∷ empty_check state ∷ [])
  unfolding read_verdict
  empty-verdict e = rw e

  pub some-verdict : is_empty line ≡ false
      → read_verdict state initial offsets line
      ≡ verdict (state_check state ∷ line_checks line ++ due_checks state initial offsets (bytes_of line))
  unfolding read_verdict
  some-verdict e = rw e

-- An empty line may stand before a set and after one, and nowhere else.
module _ (state : Reading) where
  pub before-set : state.taken ≡ 0 → between state ≡ true
  unfolding between
  before-set none = rw none

  pub by-finish : 0 < state.taken → between state ≡ finished state
  unfolding between
  by-finish some = rw (ne_eqb state.taken 0 (λ z. omega arith))

  pub after-set : finished state ≡ true → between state ≡ true
  unfolding between
  after-set e = rw (e, or-true)

  pub empty-passes : between state ≡ true → verdict (empty_check state ∷ []) ≡ Ok tt
  unfolding empty_check
  empty-passes e = rw e

  pub empty-fails : between state ≡ false → verdict (empty_check state ∷ []) ≡ Err Cause.Frame
  unfolding empty_check
  empty-fails e = rw e

-- A line that passes
pub record Passing (state : Reading) (initial offsets : ℕ) (line : List ℕ) : Type 0 where
  pub state-possible : possible state ≡ true
  pub line-sound : line_fails line ≡ false
  pub frame-passed : verdict (due_checks state initial offsets (bytes_of line)) ≡ Ok tt

module _ (state : Reading) (initial offsets : ℕ) where
  pub passing : (line : List ℕ) → is_empty line ≡ false → read_verdict state initial offsets line ≡ Ok tt
      → Passing state initial offsets line
  unfolding state_check line_checks
  passing line some e =
      let parts = passed-append (state_check state ∷ line_checks line) (due_checks state initial offsets (bytes_of line))
      (sym (some-verdict state initial offsets line some) ∙ e) in
      let sound = none-fails (state_check state ∷ line_checks line) parts.0 in
      record {
        state-possible = not-false (possible state) sound.0;
        line-sound = sound.1.0;
        frame-passed = parts.1;
      }

  pub passed : (line : List ℕ) → Passing state initial offsets line → read_verdict state initial offsets line ≡ Ok tt
  unfolding state_check line_checks
  passed line p =
      some-verdict state initial offsets line (sound-some line p.line-sound)
      ∙ rw (p.state-possible, p.line-sound, p.frame-passed)

  module _ (bytes : List ℕ) where
    -- the first line
    pub record First : Type 0 where
      pub frame : verdict (first_checks bytes (length bytes)) ≡ Ok tt
      pub tables : Usable (frame_design bytes) initial offsets

    pub first-passing : state.taken ≡ 0 → verdict (due_checks state initial offsets bytes) ≡ Ok tt → First
    first-passing z e =
        let d = frame_design bytes in
        let parts = passed-append (first_checks bytes (length bytes)) (tables_check d initial offsets ∷ [])
        (ap verdict (sym (first-checks state initial offsets bytes z)) ∙ e) in
        let legal = (first_frame bytes (length bytes) parts.0).legal in
        let long = (none-fails (tables_check d initial offsets ∷ []) parts.1).0 in
        record { frame = parts.0; tables = usable d initial offsets (set-lengths d initial offsets false legal long) }

    pub first-passed : state.taken ≡ 0 → First → verdict (due_checks state initial offsets bytes) ≡ Ok tt
    first-passed z p =
        let long = tables-long (frame_design bytes) initial offsets p.tables in
        rw (first-checks state initial offsets bytes z, verdict-append, p.frame, long)

    -- a later one
    pub record Later : Type 0 where
      pub within : state.taken < line_count state.design
      pub head : not_due state bytes (length bytes) ≡ false
      pub below : is_over state bytes ≡ false
      pub tables : (tables_check state.design initial offsets).fails ≡ false

    pub later-passing : 0 < state.taken → verdict (due_checks state initial offsets bytes) ≡ Ok tt → Later
    later-passing h e =
        let tried = none-fails (all_later state initial offsets bytes)
        (ap verdict (sym (later-checks state initial offsets bytes h)) ∙ e) in
        let due = neither _ (not_due state bytes (length bytes)) tried.0 in
        record { within = leb-false _ _ due.0; head = due.1; below = tried.1.0; tables = tried.1.1.0 }

    pub later-passed : 0 < state.taken → Later → verdict (due_checks state initial offsets bytes) ≡ Ok tt
    later-passed h p =
        rw (later-checks state initial offsets bytes h, lt-leb _ _ p.within, p.head, p.below, p.tables)
