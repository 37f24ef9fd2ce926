-- All that is accepted of a file is the writer's lines of its sets, and what is there of a last one.
use Rattle.std.specs.Prelude.{Ok, Err}
use mathlib.Core.Path.{◌≡◌, refl, sym, ap, ◌∙◌}
use mathlib.Core.Bool.{Bool, true, false, cond}
use mathlib.Core.List.{List, [], ◌∷◌, ◌++◌, append-nil, append_assoc}
use Prim.Native.Nat.{ℕ, ◌+◌, ◌<◌}
use native.Mathlib.Decide.{dec_lt}
use native.Mathlib.Omega.{arith}
use lib.Dec.{eqb}
use lib.ListN.{length}
use lib.Seq.{append_snoc}
use borrow.Author.Tests.{eqb-true, ne_eqb, not-false}
use Rattle.general.specs.Below.{list_below}
use Rattle.refusal.specs.declared.Cause.{Cause}
use Rattle.refusal.specs.Verdict.{Verdict}
use Rattle.refusal.proofs.Checks.{none-fails}
use Rattle.frames.specs.Line.{is_empty}
use Rattle.lines.specs.Slots.{line_count}
use Rattle.reading.specs.ReadLine.{Session, finished, between, state_check, empty_check, none_taken, verdict_on, after}
use Rattle.reading.proofs.ReadLaws.{empty-verdict, not-begun, all-taken, by-finish}
use Rattle.storage.specs.Feeding.{Begins, feed, kept_if, accepted, with_line, taken_from, finished_by, finishes}
use Rattle.storage.specs.Sets.{lines_in}
use Rattle.storage.specs.Storage.{set_in}
use Rattle.storage.specs.Several.{without_empty, lines_of, unfinished_lines}
use Rattle.storage.proofs.Accepting.{SomeAccepted, accepted-line}
use Rattle.storage.proofs.Uniqueness.{SoFar, refused-stands, empty-restarts, none-taken, still-so, came_from}

-- The lines that came, while the set that they belong to is not finished
abbrev unfinished : Session → List (List ℕ) → List (List ℕ)
unfinished s came = cond (finished s.state) [] came

-- The lines of sets after others
lines-of-append : (sets more : List Session) → lines_of (sets ++ more) ≡ lines_of sets ++ lines_of more
unfolding lines_of
lines-of-append [] more = refl
lines-of-append (s ∷ sets) more =
    ap (◌++◌ (lines_in (set_in s))) (lines-of-append sets more) ∙ sym (append_assoc (lines_in (set_in s)) (lines_of sets) (lines_of more))

-- With no line taken, none came.
none_came : (s : Session) (came : List (List ℕ)) → SoFar s came → Begins s → came ≡ []
unfolding list_below
none_came s came so_far none = so_far.lines ∙ rw none

-- An empty line is accepted only between sets.
between-sets : (s : Session) (line : List ℕ) → is_empty line ≡ true → verdict_on s line ≡ Ok tt → between s.state ≡ true
unfolding verdict_on empty_check
between-sets s line empty passes =
    let tried = sym (empty-verdict s.state (length s.initial) (length s.offsets) line empty) ∙ passes in
    not-false (between s.state) (none-fails (state_check s.state ∷ empty_check s.state ∷ []) tried).1.0

-- Another line is accepted only before the set is finished.
not-yet-finished : (s : Session) (line : List ℕ) → SomeAccepted s line → finished s.state ≡ false
unfolding line_count
not-yet-finished s line some = go (finished s.state) refl
  where
    go : (done : Bool) → finished s.state ≡ done → finished s.state ≡ false
    go true e =
        let all = all-taken s.state e in
        let begun : 0 < s.state.taken = omega (arith, all) in
        absurd (omega (arith, all, rw (some.accepted.kept begun) at some.accepted.within))
    go false e = e

module _ (s : Session) (came : List (List ℕ)) (so_far : SoFar s came) where
  -- Between sets nothing is there of a set that is not finished.
  none-unfinished : between s.state ≡ true → unfinished s came ≡ []
  none-unfinished e =
      elim (dec_lt 0 s.state.taken) [
        | yes begun ↦ rw (sym (by-finish s.state begun) ∙ e)
        | no none ↦
            let begins : Begins s = omega arith in
            rw (not-begun s.state begins) (none_came s came so_far begins)
      ]

  module _ (line : List ℕ) where
    -- What counts after a refused line, after an empty one and after any other
    after-refused : (cause : Cause) → verdict_on s line ≡ Err cause → with_line came s line ≡ came
    unfolding with_line
    after-refused cause e = rw (e, refused-stands s line cause e) (go (eqb s.state.taken 0) refl)
      where
        go : (none : Bool) → eqb s.state.taken 0 ≡ none → cond (eqb s.state.taken 0) [] (came ++ []) ≡ came
        go true e = rw e (sym (none_came s came so_far (eqb-true _ _ e)))
        go false e = rw e (append-nil came)

    after-empty : is_empty line ≡ true → verdict_on s line ≡ Ok tt → with_line came s line ≡ []
    unfolding with_line
    after-empty empty e = rw (empty-restarts s line empty e)

    after-other : is_empty line ≡ false → verdict_on s line ≡ Ok tt → with_line came s line ≡ came ++ (line ∷ [])
    unfolding with_line
    after-other not-empty e =
        let some = accepted-line s line not-empty e in
        rw (e, some.accepted.moved, ne_eqb (s.state.taken + 1) 0 (λ z. omega arith))

    -- One line, with what is accepted after it: where it finishes a set, that set's lines come before what follows.
    module _ (later : List (List ℕ)) where
      abbrev Step : Type 0
      Step =
          unfinished s came ++ without_empty (kept_if (verdict_on s line) line later)
          ≡ lines_of (finished_by s line) ++ (unfinished (after s line) (with_line came s line) ++ without_empty later)

      step-refused : (cause : Cause) → verdict_on s line ≡ Err cause → Step
      unfolding finished_by lines_of
      step-refused cause e = rw (after-refused cause e, e, refused-stands s line cause e)

      step-empty : is_empty line ≡ true → verdict_on s line ≡ Ok tt → Step
      unfolding finished_by lines_of without_empty
      step-empty empty e =
          rw (
            none-unfinished (between-sets s line empty e),
            after-empty empty e,
            e,
            empty-restarts s line empty e,
            empty,
            not-begun (none_taken s.state) refl,
          )

      step_other : is_empty line ≡ false → verdict_on s line ≡ Ok tt → Step
      unfolding finished_by lines_of without_empty
      step_other not-empty e = go (finished (after s line).state) refl
        where
          go : (done : Bool) → finished (after s line).state ≡ done → Step
          go true f =
              let whole : came ++ (line ∷ []) ≡ lines_in (set_in (after s line)) =
              sym (after-other not-empty e) ∙ (came_from (after s line) (with_line came s line) (still-so s came so_far line) f).lines in
              rw (not-yet-finished s line (accepted-line s line not-empty e), e, not-empty, f, append-nil, ← whole)
              (sym (append_snoc came line (without_empty later)))
          go false f =
              rw (not-yet-finished s line (accepted-line s line not-empty e), e, not-empty, f, after-other not-empty e)
              (sym (append_snoc came line (without_empty later)))

      step : Step
      step = go (verdict_on s line) (is_empty line) refl refl
        where
          go : (v : Verdict) (empty : Bool) → verdict_on s line ≡ v → is_empty line ≡ empty → Step
          go (Ok tt) true e f = step-empty f e
          go (Ok tt) false e f = step_other f e
          go (Err cause) true e f = step-refused cause e
          go (Err cause) false e f = step-refused cause e

-- So it goes on, line by line: what came of a set that is not finished, with all that is accepted later.
from-so-far : (lines : List (List ℕ)) (s : Session) (came : List (List ℕ)) → SoFar s came
    → unfinished s came ++ without_empty (accepted s lines)
    ≡ lines_of (finishes s lines) ++ unfinished (feed s lines) (taken_from came s lines)
unfolding feed taken_from accepted finishes lines_of without_empty
from-so-far [] s came so_far = append-nil (unfinished s came)
from-so-far (line ∷ lines) s came so_far =
    let next = after s line in
    let first = lines_of (finished_by s line) in
    step s came so_far line (accepted next lines)
    ∙ ap (◌++◌ first) (from-so-far lines next (with_line came s line) (still-so s came so_far line))
    ∙ rw lines-of-append (sym (append_assoc first (lines_of (finishes next lines)) _))

pub only-these : (s : Session) (lines : List (List ℕ)) → Begins s
    → without_empty (accepted s lines) ≡ lines_of (finishes s lines) ++ unfinished_lines s lines
only-these s lines none = rw (not-begun s.state none) at (from-so-far lines s [] (none-taken s none))
