-- `frames::first_design` meets its contract: the frame is tried, and then the design in it.
use Rattle.std.specs.Prelude.{Ok, Err}
use Rattle.std.proofs.lemmas.Result.{err_from_is_err_and}
use mathlib.Core.Path.{◌≡◌, sym, ◌∙◌}
use mathlib.Core.List.{List}
use Prim.Native.Nat.{ℕ}
use Rattle.refusal.specs.declared.Cause.{Cause}
use Rattle.refusal.specs.Checks.{verdict}
use Rattle.refusal.proofs.Checks.{verdict-append}
use Rattle.design.specs.Legal.{design_verdict}
use Rattle.frames.specs.DesignFrame.{frame_checks, frame_design, first_checks}
use Rattle.frames.proofs.first_design.Goals as goal

-- The verdict by that of the frame: a refusal stands, and else the design decides.
module _ (bytes : List ℕ) (count : ℕ) where
  not-due : (cause : Cause) → verdict (frame_checks bytes count) ≡ Err cause
      → Err cause ≡ verdict (first_checks bytes count)
  unfolding first_checks
  not-due cause e = rw (verdict-append, e)

  design-decides : verdict (frame_checks bytes count) ≡ (Ok tt)
      → design_verdict (frame_design bytes) ≡ verdict (first_checks bytes count)
  unfolding first_checks design_verdict
  design-decides e = rw (verdict-append, e)

pub returns-in_err-frame_verdict : goal.returns-in_err-frame_verdict
returns-in_err-frame_verdict c =
    let r = err_from_is_err_and c.from_residual.result c.from_residual.ensures.1 in
    rw (r.1, r.2) (record { verdict = not-due _ _ _ (sym c.frame_verdict.ensures ∙ c.in_err-frame_verdict.was); held = tt })

pub returns : goal.returns
returns c =
    let checked = rw c.frame_design.ensures at c.checked.ensures in
    record {
      verdict = checked.verdict ∙ design-decides _ _ (sym c.frame_verdict.ensures ∙ c.in_ok-frame_verdict.was);
      held = checked.same;
    }
