-- `sizing::size` meets its contract: the verdict's refusal, 11 of a legal design that is not admitted, or the size.
use Rattle.std.specs.Prelude.{Ok, Err, Result}
use mathlib.Core.Path.{◌≡◌, refl, sym}
use Prim.Native.Nat.{ℕ}
use Rattle.refusal.specs.declared.Cause.{Cause}
use Rattle.design.specs.declared.Design.{Design}
use Rattle.design.specs.Legal.{design_checks, design_verdict}
use Rattle.refusal.specs.Told.{told_by}
use Rattle.design.proofs.LegalLaws.{limits, guard_small}
use Rattle.design.proofs.AdmittedLaws.{refused-before, not-admitted, admitted}
use Rattle.sizing.specs.Size.{size, size_verdict, size_answer, size_told}
use Rattle.std.proofs.lemmas.Result.{err_from_is_err_and}
use Rattle.sizing.proofs.size.Goals as goal

-- what is promised by the verdict
module _ (d : Design) where
  abbrev Promised : (Result ℕ Cause) → Type 0
  Promised r = (r ≡ size_answer d) × (told_by r ≡ size_told d)

  refused-with : (cause : Cause) → size_verdict d ≡ Err cause → Promised (Err cause)
  unfolding size_answer size_told
  refused-with cause e = (rw e, rw e)

  answered : (bits : ℕ) → size_verdict d ≡ (Ok tt) → bits ≡ size d → Promised (Ok bits)
  unfolding size_answer size_told
  answered bits e is = rw (e, is) (refl, refl)

pub returns-in_err-legal : goal.returns-in_err-legal
unfolding size_verdict design_verdict
returns-in_err-legal c =
    let r = err_from_is_err_and c.from_residual.result c.from_residual.ensures.1 in
    let p = refused-with _ _ (refused-before _ (design_checks _) _ (sym c.in_err-legal.ensures.verdict)) in
    rw (r.1, r.2) (record { answer = p.0; told = p.1 })

pub limit-requires : goal.limit-requires
limit-requires c = guard_small _ (limits _ (sym c.in_ok-legal.ensures.verdict))

pub returns-then-limit-budget : goal.returns-then-limit-budget
unfolding size_verdict design_verdict
returns-then-limit-budget c =
    let same = c.in_ok-legal.ensures.same in
    let p = refused-with _ _ (not-admitted _ (design_checks _) (sym c.in_ok-legal.ensures.verdict) (rw
    (c.limit.ensures, c.budget.ensures, same) at c.if-limit-budget.true)) in
    record { answer = p.0; told = p.1 }

pub returns : goal.returns
unfolding size_verdict design_verdict
returns c =
    let same = c.in_ok-legal.ensures.same in
    let p = answered _ _ (admitted _ (design_checks _) (sym c.in_ok-legal.ensures.verdict) (rw (c.limit.ensures, c.budget.ensures, same) at
    c.if-limit-budget.false)) (rw same at c.size_of.ensures) in
    record { answer = p.0; told = p.1 }
