-- `filling::fill` meets its contract: the verdict of the set, then the budget against the limit, then both tables.
use Rattle.std.proofs.lemmas.Result.{err_from_is_err_and}
use mathlib.Core.Path.{sym}
use native.Mathlib.Omega.{arith}
use Rattle.design.proofs.LegalLaws.{limits, guard_small}
use Rattle.tables.proofs.SetLaws.{usable}
use Rattle.filling.proofs.FillLaws.{refused-before, not-admitted, admitted, refuses, fills}
use Rattle.filling.proofs.fill.Goals as goal

pub returns-in_err-legal : goal.returns-in_err-legal
returns-in_err-legal c =
    let r = err_from_is_err_and c.from_residual.result c.from_residual.ensures.1 in
    rw (r.1, r.2) (refuses _ _ _ (refused-before _ _ _ (sym c.in_err-legal.ensures.verdict)))

pub limit-requires : goal.limit-requires
limit-requires c = guard_small _ (limits _ (usable _ _ _ (sym c.in_ok-legal.ensures.verdict)).legal)

pub returns-then-limit-budget : goal.returns-then-limit-budget
returns-then-limit-budget c =
    let e = c.in_ok-legal.ensures in
    refuses _ _ _ (not-admitted _ _ _ (sym e.verdict) (omega (arith, c.limit.ensures, rw e.same at c.budget.ensures)))

pub fill_initial-requires : goal.fill_initial-requires
fill_initial-requires c = let e = c.in_ok-legal.ensures in rw e.same (usable _ _ _ (sym e.verdict)).initial-long

pub fill_offsets-requires : goal.fill_offsets-requires
fill_offsets-requires c = let e = c.in_ok-legal.ensures in rw e.same (usable _ _ _ (sym e.verdict)).offsets-long

pub returns : goal.returns
returns c =
    let e = c.in_ok-legal.ensures in
    fills _ _ _ (admitted _ _ _ (sym e.verdict) (rw (c.limit.ensures, c.budget.ensures, e.same) at c.if-limit-budget.false))
    (rw e.same at c.fill_initial.ensures) (rw e.same at c.fill_offsets.ensures)
