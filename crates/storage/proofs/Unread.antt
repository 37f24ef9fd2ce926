-- Pairs beyond m are not read, and what a reader leaves in them.
use Rattle.std.specs.Prelude.{Ok, Err}
use mathlib.Core.Path.{◌≡◌, refl, sym, ◌∙◌}
use mathlib.Core.Bool.{Bool, true, false}
use mathlib.Core.List.{List}
use Prim.Native.Nat.{ℕ, zero, suc, ◌≤◌, ◌<◌}
use native.Mathlib.Omega.{arith}
use lib.ListN.{length, get_or}
use lib.IntN.{ℤ}
use borrow.Author.Tests.{le-ltb}
use Rattle.refusal.specs.Verdict.{Verdict}
use Rattle.refusal.specs.Checks.{verdict, if_passed}
use Rattle.design.specs.declared.Design.{Design}
use Rattle.design.specs.Cut.{no_pair}
use Rattle.design.specs.Same.{Same}
use Rattle.tables.specs.Set.{tables_check}
use Rattle.frames.specs.Hex.{bytes_of}
use Rattle.frames.specs.Line.{is_empty, line_checks}
use Rattle.frames.specs.DesignFrame.{frame_pair, frame_design}
use Rattle.lines.specs.Slots.{slot_of}
use Rattle.reading.specs.declared.Reading.{Reading}
use Rattle.reading.specs.ReadLine.{
  possible,
  state_check,
  finished,
  between,
  empty_check,
  design_after,
  due_checks,
  read_verdict,
  entry_in,
  Session,
  session,
  moved_by,
  verdict_on,
  after,
}
use Rattle.reading.proofs.ReadLaws.{
  first-design,
  later-design,
  first-checks,
  later-checks,
  first-possible,
  later-possible,
  not-begun,
  empty-verdict,
  some-verdict,
  before-set,
  empty-passes,
}
use Rattle.storage.specs.Unread.{SameReading, SameRead, Unread}
use Rattle.storage.proofs.SameDesigns.{
  initial-count-same,
  offset-total-same,
  line-count-same,
  slot_same,
  head-same,
  over-same,
  answers-same,
}

-- A state
abbrev at : Design → ℕ → Reading
at d n = record { design = d; taken = n }

-- A later line is compared with what is read of the design.
module _ (d e : Design) (s : Same d e) (n : ℕ) (some : 0 < n) where
  later-due : (initial offsets : ℕ) (bytes : List ℕ)
      → verdict (due_checks (at d n) initial offsets bytes) ≡ verdict (due_checks (at e n) initial offsets bytes)
  unfolding tables_check entry_in
  later-due initial offsets bytes =
      rw (
        later-checks (at d n) initial offsets bytes some,
        later-checks (at e n) initial offsets bytes some,
        line-count-same d e s,
        slot_same d e s n,
        head-same d e s (slot_of e n),
        over-same d e s (slot_of e n),
        initial-count-same d e s,
        offset-total-same d e s,
      )

  possible-later : possible (at d n) ≡ possible (at e n)
  possible-later =
      rw (later-possible (at d n) some, later-possible (at e n) some, (answers-same d e s).design, line-count-same d e s)

  finished-later : finished (at d n) ≡ finished (at e n)
  unfolding finished
  finished-later = rw (possible-later, line-count-same d e s)

-- With no line taken the designs may be any two: the state is possible, the reading is not finished, and the verdict is on the line alone.
possible-same : (d e : Design) (n : ℕ) → (0 < n → Same d e) → possible (at d n) ≡ possible (at e n)
possible-same d e zero same = first-possible (at d 0) refl ∙ sym (first-possible (at e 0) refl)
possible-same d e (suc n) same = possible-later d e (same (omega arith)) (suc n) (omega arith)

finished-same : (d e : Design) (n : ℕ) → (0 < n → Same d e) → finished (at d n) ≡ finished (at e n)
finished-same d e zero same = not-begun (at d 0) refl ∙ sym (not-begun (at e 0) refl)
finished-same d e (suc n) same = finished-later d e (same (omega arith)) (suc n) (omega arith)

due-same : (d e : Design) (n : ℕ) → (0 < n → Same d e) → (initial offsets : ℕ) (bytes : List ℕ)
    → verdict (due_checks (at d n) initial offsets bytes) ≡ verdict (due_checks (at e n) initial offsets bytes)
due-same d e zero same initial offsets bytes =
    rw (first-checks (at d 0) initial offsets bytes refl, first-checks (at e 0) initial offsets bytes refl)
due-same d e (suc n) same initial offsets bytes = later-due d e (same (omega arith)) (suc n) (omega arith) initial offsets bytes

module _ (d e : Design) (n : ℕ) (same : 0 < n → Same d e) (initial offsets : ℕ) (line : List ℕ) where
  verdict-same : read_verdict (at d n) initial offsets line ≡ read_verdict (at e n) initial offsets line
  unfolding state_check between empty_check line_checks
  verdict-same = go (is_empty line) refl
    where
      go : (empty : Bool) → is_empty line ≡ empty → read_verdict (at d n) initial offsets line ≡ read_verdict (at e n) initial offsets line
      go true f =
          rw (
            empty-verdict (at d n) initial offsets line f,
            empty-verdict (at e n) initial offsets line f,
            possible-same d e n same,
            finished-same d e n same,
          )
      go false f =
          rw (
            some-verdict (at d n) initial offsets line f,
            some-verdict (at e n) initial offsets line f,
            possible-same d e n same,
            due-same d e n same initial offsets (bytes_of line),
          )

-- The design that counts, the line's or the state's
design-same : (d e : Design) (n : ℕ) → (0 < n → Same d e) → (bytes : List ℕ)
    → Same (design_after (at d n) bytes) (design_after (at e n) bytes)
unfolding design_after
design-same d e zero same bytes = search
design-same d e (suc n) same bytes =
    rw (later-design (at d (suc n)) bytes (omega arith), later-design (at e (suc n)) bytes (omega arith)) (same (omega arith))

module _ (d e : Design) (n : ℕ) (same : 0 < n → Same d e) (initial : List ℕ) (offsets : List ℤ) where
  abbrev first : Session
  first = session (at d n) initial offsets

  abbrev second : Session
  second = session (at e n) initial offsets

  moved_same : (line : List ℕ) → SameReading (moved_by first line) (moved_by second line)
  unfolding entry_in
  moved_same line = go (is_empty line) refl
    where
      go : (empty : Bool) → is_empty line ≡ empty → SameReading (moved_by first line) (moved_by second line)
      go true f = rw f (record { taken = refl; design = λ some. absurd (omega arith); initial = refl; offsets = refl })
      go false f =
          let bytes = bytes_of line in
          let counts = design-same d e n same bytes in
          let slot = slot_same _ _ counts n in
          let head = head-same _ _ counts (slot_of (design_after (at e n) bytes) n) in
          rw f
          (record {
            taken = refl;
            design = λ some. counts;
            initial = rw (slot, head);
            offsets = rw (slot, head);
          })

  after_same : (v : Verdict) (line : List ℕ)
      → SameReading (if_passed v (moved_by first line) (λ cause. first)) (if_passed v (moved_by second line) (λ cause. second))
  after_same (Ok tt) line = moved_same line
  after_same (Err cause) line = record { taken = refl; design = λ some. same (omega arith); initial = refl; offsets = refl }

  read_same : (line : List ℕ) → SameRead first second line
  unfolding verdict_on after
  read_same line =
      let alike = verdict-same d e n same (length initial) (length offsets) line in
      record {
        verdict = alike;
        after = rw alike (after_same (verdict_on second line) line);
        finished = finished-same d e n same;
      }

-- What a reader leaves in the pairs beyond m: zeros on a first line,
frame-zeros : (bytes : List ℕ) (i : ℕ) → (frame_design bytes).m ≤ i
    → get_or (frame_design bytes).pairs i no_pair ≡ no_pair
unfolding frame_design frame_pair
frame-zeros bytes zero h = rw (le-ltb _ _ h)
frame-zeros bytes (suc zero) h = rw (le-ltb _ _ h)
frame-zeros bytes (suc (suc zero)) h = rw (le-ltb _ _ h)
frame-zeros bytes (suc (suc (suc zero))) h = rw (le-ltb _ _ h)
frame-zeros bytes (suc (suc (suc (suc i)))) h = refl

-- on later ones what they held,
moved-design : (s : Session) (line : List ℕ) → 0 < s.state.taken → (moved_by s line).state.design ≡ s.state.design
moved-design s line some = go (is_empty line) refl
  where
    go : (empty : Bool) → is_empty line ≡ empty → (moved_by s line).state.design ≡ s.state.design
    go true f = rw f
    go false f = rw f (later-design s.state (bytes_of line) some)

after-design : (v : Verdict) (s : Session) (line : List ℕ) → 0 < s.state.taken
    → (if_passed v (moved_by s line) (λ cause. s)).state.design ≡ s.state.design
after-design (Ok tt) s line some = moved-design s line some
after-design (Err cause) s line some = refl

-- and on an empty line before the first one the whole reading stands.
pub passed_over : (s : Session) (line : List ℕ) → s.state.taken ≡ 0 → is_empty line ≡ true → after s line ≡ s
unfolding after verdict_on state_check
passed_over s line none empty =
    let passes = empty-passes s.state (before-set s.state none) in
    rw (empty-verdict s.state (length s.initial) (length s.offsets) line empty, first-possible s.state none, passes, empty)
    (rw (← none) refl)

pub unread : Unread
unfolding after
unread =
    record {
      not-read = answers-same;
      reader = λ s t r line.
          rw (← r.taken, ← r.initial, ← r.offsets)
          (read_same s.state.design t.state.design s.state.taken r.design s.initial s.offsets line);
      zeros = λ s line none not-empty passed.
          rw (passed, not-empty, first-design s.state (bytes_of line) none) (frame-zeros (bytes_of line));
      kept = λ s line. after-design (verdict_on s line) s line;
    }
