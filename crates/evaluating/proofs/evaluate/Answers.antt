-- `evaluating::evaluate` meets its contract: the verdict of the set, then the answer for the word.
use Rattle.values.specs.declared.OutputUnits.{OutputUnits}
use Rattle.std.specs.Prelude.{Ok, Err, Result}
use mathlib.Core.Path.{◌≡◌, refl, sym, ap, ◌∙◌}
use mathlib.Core.List.{List}
use Prim.Native.Nat.{ℕ}
use lib.ListN.{length}
use lib.IntN.{ℤ}
use Rattle.std.proofs.lemmas.Result.{err_from_is_err_and}
use Rattle.refusal.specs.declared.Cause.{Cause}
use Rattle.refusal.specs.Checks.{verdict}
use Rattle.refusal.proofs.Checks.{verdict-append}
use Rattle.refusal.proofs.Answers.{answer-told-by}
use Rattle.design.specs.declared.Design.{Design}
use Rattle.tables.specs.Sum.{word_at}
use Rattle.tables.specs.Set.{set_checks}
use Rattle.evaluating.specs.Evaluate.{word_checks, evaluated, evaluate_verdict, evaluate_answer, told_by, evaluate_told}
use Rattle.evaluating.proofs.evaluate.Goals as goal

-- The answer by the verdicts of the set and of the word.
module _ (d : Design) (initial : List ℕ) (offsets : List ℤ) (x : ℕ) where
  -- what is promised of an answer
  abbrev Promised : Result OutputUnits Cause → Type 0
  Promised r = (r ≡ evaluate_answer d initial offsets x) × (told_by r ≡ evaluate_told d initial offsets x)

  promised : (r : Result OutputUnits Cause) → r ≡ evaluate_answer d initial offsets x → Promised r
  unfolding evaluate_answer evaluate_told
  promised r e = (e, ap told_by e ∙ answer-told-by told_by (evaluate_verdict d initial offsets x) _ _ refl (λ cause. refl))

  refused : (cause : Cause) → verdict (set_checks d (length initial) (length offsets)) ≡ Err cause
      → Promised (Err cause)
  unfolding evaluate_answer evaluate_verdict
  refused cause e = promised _ (rw (verdict-append, e))

  answered : verdict (set_checks d (length initial) (length offsets)) ≡ (Ok tt)
      → (r : Result OutputUnits Cause) → r ≡ evaluated (verdict (word_checks d initial offsets x)) (word_at d initial offsets x) → Promised r
  unfolding evaluate_answer evaluate_verdict
  answered passed r e = promised r (rw (verdict-append, passed) e)

pub returns-in_err-set : goal.returns-in_err-set
returns-in_err-set c =
    let r = err_from_is_err_and c.from_residual.result c.from_residual.ensures.1 in
    let p = refused _ _ _ _ _ (sym c.in_err-set.ensures.verdict) in
    rw (r.1, r.2) (record { answer = p.0; told = p.1 })

pub returns : goal.returns
returns c =
    let kept = c.in_ok-set.ensures.kept in
    let p = answered _ _ _ _ (sym c.in_ok-set.ensures.verdict) _ (rw (kept.0, kept.1, kept.2) at c.word_answer.ensures) in
    record { answer = p.0; told = p.1 }
