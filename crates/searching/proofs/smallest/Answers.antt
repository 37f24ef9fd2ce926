-- `searching::smallest` meets its contract: a refusal of kind, w or q stands, and then the best design tells whether there is one.
use Rattle.std.specs.Prelude.{Option, None, Some, Result, Ok, Err, ok_or}
use mathlib.Core.Path.{◌≡◌, refl, sym, ◌∙◌}
use Prim.Native.Nat.{ℕ}
use Rattle.refusal.specs.declared.Cause.{Cause}
use Rattle.refusal.specs.Checks.{verdict}
use Rattle.refusal.specs.Told.{told_by}
use Rattle.values.specs.Widths.{limits_of, function_checks}
use Rattle.searching.specs.declared.SizedDesign.{SizedDesign}
use Rattle.searching.specs.Best.{told_of, smallest_of, smallest_answer, smallest_told}
use Rattle.std.proofs.lemmas.Result.{err_from_is_err_and}
use Rattle.searching.proofs.smallest.Goals as goal
use Rattle.searching.proofs.smallest.Goals.{After-function_verdict, In_ok-function_verdict}

-- what the best tells is what its answer tells
told-best : (best : Option SizedDesign) → told_by (ok_or best Cause.NoneAdmitted) ≡ told_of best
told-best None = refl
told-best (Some best) = refl

module _ (kind w q : ℕ) where
  abbrev Promised : Result SizedDesign Cause → Type 0
  Promised r = (r ≡ smallest_answer kind w q) × (told_by r ≡ smallest_told kind w q)

  refuses : (cause : Cause) → verdict (function_checks (limits_of kind) kind w q) ≡ Err cause → Promised (Err cause)
  unfolding smallest_answer smallest_told
  refuses cause e = (rw e, rw e)

  answers : (r : Result SizedDesign Cause) → verdict (function_checks (limits_of kind) kind w q) ≡ Ok tt
      → r ≡ ok_or (smallest_of kind w q) Cause.NoneAdmitted → Promised r
  unfolding smallest_answer smallest_told
  answers r passed is = (is ∙ rw passed, rw (is, passed) (told-best (smallest_of kind w q)))

-- the verdict on kind, w and q, by the limits of the kind
judged : (c : After-function_verdict) → let a = c.args in
    c.function_verdict.result ≡ verdict (function_checks (limits_of a.kind) a.kind a.w a.q)
judged c = rw (← c.limits_of.ensures) c.function_verdict.ensures

passed : (c : In_ok-function_verdict) → let a = c.args in
    verdict (function_checks (limits_of a.kind) a.kind a.w a.q) ≡ Ok tt
passed c = sym (judged c.before.before) ∙ c.in_ok-function_verdict.was

pub returns-in_err-function_verdict : goal.returns-in_err-function_verdict
returns-in_err-function_verdict c =
    let r = err_from_is_err_and c.from_residual.result c.from_residual.ensures.1 in
    let p = refuses _ _ _ _ (sym (judged c.before.before.before) ∙ c.in_err-function_verdict.was) in
    rw (r.1, r.2) (record { answer = p.0; told = p.1 })

pub best_design-requires : goal.best_design-requires
best_design-requires c = passed c

pub returns : goal.returns
returns c =
    let p = answers _ _ _ _ (passed c.before.before) (c.ok_or.ensures.value ∙ rw c.best_design.ensures) in
    record { answer = p.0; told = p.1 }
