-- `checking::check` meets its contract: refusals 1 to 10, then the search.
use Rattle.std.specs.Prelude.{Result, Ok, Err}
use Rattle.std.proofs.lemmas.Result.{err_from_is_err_and}
use mathlib.Core.Path.{◌≡◌, sym, ap, ◌∙◌}
use mathlib.Core.List.{List}
use Prim.Native.Nat.{ℕ, ◌^◌}
use lib.IntN.{ℤ}
use lib.ListN.{length}
use Rattle.refusal.specs.declared.Cause.{Cause}
use Rattle.refusal.specs.Checks.{verdict}
use Rattle.refusal.specs.Told.{told_by}
use Rattle.refusal.proofs.Answers.{answer-told}
use Rattle.design.specs.declared.Design.{Design}
use Rattle.tables.specs.declared.sums.TableSet.{TableSet}
use Rattle.tables.specs.Set.{set_checks}
use Rattle.checking.specs.Check.{Finding, faithful_at, finding_below, check_verdict, check_answer, check_told}
use Rattle.checking.proofs.CheckLaws.{check-searches}
use Rattle.checking.proofs.check.Goals as goal

module _ (d : Design) (initial : List ℕ) (offsets : List ℤ) where
  -- what is promised of an answer
  abbrev Promised : Result Finding Cause → Type 0
  Promised r = record { answer : r ≡ check_answer d initial offsets; told : told_by r ≡ check_told d initial offsets }

  promised : (r : Result Finding Cause) → r ≡ check_answer d initial offsets → Promised r
  unfolding check_answer check_told
  promised r e = record { answer = e; told = ap told_by e ∙ answer-told (check_verdict d initial offsets) _ }

  refused : (cause : Cause) → Err cause ≡ verdict (set_checks d (length initial) (length offsets)) → Promised (Err cause)
  unfolding check_answer check_verdict
  refused cause e = promised _ (rw (← e))

  searched : Ok tt ≡ verdict (set_checks d (length initial) (length offsets)) → (set : TableSet)
      → (set.tables.design ≡ d) × (set.initial.now ≡ initial) × (set.tables.offsets.now ≡ offsets) → (found : Finding)
      → found ≡ finding_below (2 ^ set.tables.design.w) (faithful_at set.tables.design set.initial.now set.tables.offsets.now)
      → Promised (Ok found)
  unfolding check_verdict
  searched e set kept found found-is =
      let same : found ≡ finding_below (2 ^ d.w) (faithful_at d initial offsets) = rw (kept.0, kept.1, kept.2) at found-is in
      promised _ (rw same (sym (check-searches d initial offsets (sym e))))

pub returns-in_err-set : goal.returns-in_err-set
returns-in_err-set c =
    let r = err_from_is_err_and c.from_residual.result c.from_residual.ensures.1 in
    rw (r.1, r.2) (refused _ _ _ _ c.in_err-set.ensures.verdict)

pub returns : goal.returns
returns c = searched _ _ _ c.in_ok-set.ensures.verdict c.in_ok-set.set c.in_ok-set.ensures.kept _ c.search.ensures
