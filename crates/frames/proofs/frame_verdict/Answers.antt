-- `frames::frame_verdict` meets its contract: a test that fails makes `frame_fails` true, and where both pass it is false.
use Rattle.std.specs.Prelude.{Ok, Err}
use mathlib.Core.Path.{◌≡◌, ap}
use mathlib.Core.Bool.{true, false, not}
use mathlib.Core.List.{List}
use lib.Dec.{eqb}
use lib.ListN.{get_or}
use Rattle.refusal.specs.declared.Cause.{Cause}
use Rattle.refusal.specs.Checks.{verdict}
use Prim.Native.Nat.{ℕ, ◌+◌, ◌*◌}
use native.Mathlib.Omega.{arith}
use borrow.Author.Tests.{eq-eqb, ne_eqb}
use Rattle.frames.specs.DesignFrame.{frame_fails, frame_checks}
use Rattle.frames.proofs.frame_verdict.Goals as goal
use Rattle.frames.proofs.frame_verdict.Goals.{then-frame-ne1-via-else-frame-ne1+then-frame-due, then-frame-ne1-via-then-frame-ne1}

-- The verdict by the two tests: the frame kind is 1, and the number of bytes is 8 + 2m.
module _ (bytes : List ℕ) (count : ℕ) where
  other-kind : (get_or bytes 0 0 ≡ 1 → ⊥) → Err Cause.Frame ≡ verdict (frame_checks bytes count)
  unfolding frame_fails frame_checks
  other-kind other = rw (frame_fails, ne_eqb _ _ other)

  other-count : get_or bytes 0 0 ≡ 1 → not (eqb count (8 + 2 * get_or bytes 6 0)) ≡ true
      → Err Cause.Frame ≡ verdict (frame_checks bytes count)
  unfolding frame_fails frame_checks
  other-count kind other = rw (frame_fails, eq-eqb _ _ kind, other)

  is-due : get_or bytes 0 0 ≡ 1 → not (eqb count (8 + 2 * get_or bytes 6 0)) ≡ false → (Ok tt) ≡ verdict (frame_checks bytes count)
  unfolding frame_fails frame_checks
  is-due kind due = rw (frame_fails, eq-eqb _ _ kind, due)

pub returns-then-frame-ne1 : goal.returns-then-frame-ne1
returns-then-frame-ne1 c =
    let a = c.args in
    elim c.then-frame-ne1.branch [ then-frame-ne1-via-then-frame-ne1 w ↦ other-kind a.frame.now.bytes a.frame.now.count (λ e. w.if-frame-ne1.true (omega (arith, e))) | then-frame-ne1-via-else-frame-ne1+then-frame-due w ↦ other-count a.frame.now.bytes a.frame.now.count (omega (arith, w.if-frame-ne1.false)) (ap not (ne_eqb _ _ w.if-frame-due.true)) ]

pub returns : goal.returns
returns c =
    let a = c.args in
    is-due a.frame.now.bytes a.frame.now.count (omega (arith, c.if-frame-ne1.false)) (ap not (eq-eqb _ _ c.if-frame-due.false))
