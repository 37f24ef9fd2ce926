-- `counting::count` meets its contract: refusals 1 to 10, then the counts.
use Rattle.std.specs.Prelude.{Result, Ok, Err}
use Rattle.std.proofs.lemmas.Result.{err_from_is_err_and}
use mathlib.Core.Path.{◌≡◌, ap, ◌∙◌}
use mathlib.Core.List.{List}
use Prim.Native.Nat.{ℕ, ◌^◌}
use lib.IntN.{ℤ}
use lib.ListN.{length}
use Rattle.refusal.specs.declared.Cause.{Cause}
use Rattle.refusal.specs.Checks.{verdict}
use Rattle.refusal.specs.Told.{told_by}
use Rattle.refusal.proofs.Answers.{answer-told}
use Rattle.design.specs.declared.Design.{Design}
use Rattle.design.proofs.LegalLaws.{limits}
use Rattle.tables.specs.declared.sums.TableSet.{TableSet}
use Rattle.tables.specs.Set.{set_checks}
use Rattle.counting.specs.declared.Counts.{Counts}
use Rattle.counting.specs.Count.{class_at, counts_below, count_verdict, count_answer, count_told}
use Rattle.counting.proofs.count.Goals as goal

module _ (d : Design) (initial : List ℕ) (offsets : List ℤ) where
  -- what is promised of an answer
  abbrev Promised : Result Counts Cause → Type 0
  Promised r = record { answer : r ≡ count_answer d initial offsets; told : told_by r ≡ count_told d initial offsets }

  promised : (r : Result Counts Cause) → r ≡ count_answer d initial offsets → Promised r
  unfolding count_answer count_told
  promised r e = record { answer = e; told = ap told_by e ∙ answer-told (count_verdict d initial offsets) _ }

  refused : (cause : Cause) → Err cause ≡ verdict (set_checks d (length initial) (length offsets)) → Promised (Err cause)
  unfolding count_answer count_verdict
  refused cause e = promised _ (rw (← e))

  counted : Ok tt ≡ verdict (set_checks d (length initial) (length offsets)) → (set : TableSet)
      → (set.tables.design ≡ d) × (set.initial.now ≡ initial) × (set.tables.offsets.now ≡ offsets) → (counts : Counts)
      → counts ≡ counts_below (2 ^ set.tables.design.w) (class_at set.tables.design set.initial.now set.tables.offsets.now)
      → Promised (Ok counts)
  unfolding count_answer count_verdict
  counted e set kept counts counts-are =
      let same : counts ≡ counts_below (2 ^ d.w) (class_at d initial offsets) = rw (kept.0, kept.1, kept.2) at counts-are in
      promised _ (rw (← e, same))

pub returns-in_err-set : goal.returns-in_err-set
returns-in_err-set c =
    let r = err_from_is_err_and c.from_residual.result c.from_residual.ensures.1 in
    rw (r.1, r.2) (refused _ _ _ _ c.in_err-set.ensures.verdict)

pub row_of-requires : goal.row_of-requires
row_of-requires c = (limits _ c.in_ok-set.set.tables.legal).widths.kind-known

pub invariant_of-words : goal.invariant_of-words
invariant_of-words c = record { row_value = c.row_of.ensures }

pub returns : goal.returns
returns c = counted _ _ _ c.in_ok-set.ensures.verdict c.in_ok-set.set c.in_ok-set.ensures.kept _ c.count_all.ensures
