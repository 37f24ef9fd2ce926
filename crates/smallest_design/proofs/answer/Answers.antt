-- `smallest_design::answer` is safe: a design that is found is legal.
use mathlib.Core.Path.{sym, ◌∙◌}
use Rattle.optimum.proofs.Optimal.{optimum}
use Rattle.smallest_design.proofs.answer.Goals as goal

pub invariant_of-legal : goal.invariant_of-legal
invariant_of-legal g c =
    let asked = c.args.question in
    let found = optimum.found asked.kind asked.w asked.q c.in-Ok.found (sym c.smallest.ensures.answer ∙ c.in-Ok.is) in
    record { legal = found.admitted.legal }
