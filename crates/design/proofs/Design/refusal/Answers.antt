-- `design::Design::refusal` meets its contract: a refusal of the widths stands, and the cut is judged after they pass.
use Rattle.std.specs.Prelude.{Ok, Err}
use mathlib.Core.Path.{◌≡◌, sym, ◌∙◌}
use Rattle.std.proofs.lemmas.Result.{err_from_is_err_and}
use Rattle.refusal.specs.declared.Cause.{Cause}
use Rattle.refusal.specs.Checks.{verdict}
use Rattle.refusal.proofs.Checks.{verdict-append}
use Rattle.values.specs.Widths.{limits_of, width_checks}
use Rattle.design.specs.declared.Design.{Design}
use Rattle.design.specs.Legal.{cut_checks, design_checks, design_verdict}
use Rattle.design.proofs.Design.refusal.Goals as goal
use Rattle.design.proofs.Design.refusal.Goals.{After-width_verdict}

module _ (d : Design) where
  refused : (cause : Cause) → verdict (width_checks (limits_of d.kind) d.kind d.w d.q d.g) ≡ Err cause
      → Err cause ≡ design_verdict d
  unfolding design_verdict design_checks
  refused cause e = rw (verdict-append, e)

  passed : verdict (width_checks (limits_of d.kind) d.kind d.w d.q d.g) ≡ (Ok tt)
      → verdict (cut_checks d) ≡ design_verdict d
  unfolding design_verdict design_checks
  passed e = rw (verdict-append, e)

-- the verdict on the widths
widths : (c : After-width_verdict) → let d = c.args.self.now in c.width_verdict.result ≡ verdict (width_checks (limits_of d.kind) d.kind d.w d.q d.g)
widths c = rw (← c.limits_of.ensures) c.width_verdict.ensures

pub returns-in_err-width_verdict : goal.returns-in_err-width_verdict
returns-in_err-width_verdict c =
    let r = err_from_is_err_and c.from_residual.result c.from_residual.ensures.1 in
    rw (r.1, r.2) (refused _ _ (sym (widths c.before.before.before) ∙ c.in_err-width_verdict.was))

pub returns : goal.returns
returns c = c.cut_verdict.ensures ∙ passed _ (sym (widths c.before.before.before) ∙ c.in_ok-width_verdict.was)
