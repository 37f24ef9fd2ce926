-- `design::budget` meets its contract: the verdict's refusal, or the budget of a legal design.
use Rattle.std.specs.Prelude.{Ok, Err}
use mathlib.Core.Path.{◌≡◌, sym}
use Rattle.std.proofs.lemmas.Result.{err_from_is_err_and}
use Rattle.refusal.specs.declared.Cause.{Cause}
use Rattle.refusal.specs.Told.{told_by}
use Rattle.design.specs.declared.Design.{Design}
use Rattle.design.specs.Legal.{design_verdict}
use Rattle.design.specs.Answers.{budget_answer, budget_told}
use Rattle.design.proofs.budget.Goals as goal

refused : (d : Design) (cause : Cause) → design_verdict d ≡ Err cause
    → (Err cause ≡ budget_answer d) × (told_by (Err cause) ≡ budget_told d)
unfolding budget_answer budget_told
refused d cause e = (rw e, rw e)

pub returns-in_err-legal : goal.returns-in_err-legal
returns-in_err-legal c =
    let r = err_from_is_err_and c.from_residual.result c.from_residual.ensures.1 in
    let p = refused _ _ (sym c.in_err-legal.ensures.verdict) in
    rw (r.1, r.2) (record { answer = p.0; told = p.1 })

pub returns : goal.returns
unfolding budget_answer budget_told
returns c =
    let legal : design_verdict c.args.d ≡ Ok tt = sym c.in_ok-legal.ensures.verdict in
    let same = c.in_ok-legal.ensures.same in
    record { answer = rw (legal, c.budget.ensures, same); told = rw (legal, c.budget.ensures, same) }
