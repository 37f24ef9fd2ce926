-- `design::Design::checked` meets its contract: the design is legal where there is no refusal.
use mathlib.Core.Path.{refl, sym, ◌∙◌}
use Rattle.std.proofs.lemmas.Result.{err_from_is_err_and}
use Rattle.design.proofs.Design.checked.Goals as goal

pub returns-in_err-refusal : goal.returns-in_err-refusal
returns-in_err-refusal c =
    let r = err_from_is_err_and c.from_residual.result c.from_residual.ensures.1 in
    rw (r.1, r.2) (record { verdict = sym c.in_err-refusal.was ∙ c.refusal.ensures; same = tt })

pub invariant_of-result : goal.invariant_of-result
invariant_of-result c = record { legal = sym c.refusal.ensures ∙ c.in_ok-refusal.was }

pub returns : goal.returns
returns c = record { verdict = sym c.in_ok-refusal.was ∙ c.refusal.ensures; same = refl }
