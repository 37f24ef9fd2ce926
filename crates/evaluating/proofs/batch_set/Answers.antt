-- `evaluating::batch_set` meets its contract: the verdict of the set, then the two lengths.
use Rattle.std.specs.Prelude.{Ok, Err}
use mathlib.Core.Path.{◌≡◌, sym}
use mathlib.Core.List.{List}
use Prim.Native.Nat.{ℕ, ◌≤◌, ◌<◌}
use borrow.Author.Tests.{lt-ltb, le-ltb}
use lib.ListN.{length}
use lib.IntN.{ℤ}
use Rattle.std.proofs.lemmas.Result.{err_from_is_err_and}
use Rattle.refusal.specs.declared.Cause.{Cause}
use Rattle.refusal.specs.Checks.{verdict}
use Rattle.refusal.proofs.Checks.{verdict-append}
use Rattle.design.specs.declared.Design.{Design}
use Rattle.tables.specs.Set.{set_checks}
use Rattle.evaluating.specs.Batch.{output_check, room_verdict}
use Rattle.evaluating.proofs.batch_set.Goals as goal

module _ (d : Design) (initial : List ℕ) (offsets : List ℤ) (words output : ℕ) where
  refused : (cause : Cause) → verdict (set_checks d (length initial) (length offsets)) ≡ Err cause
      → Err cause ≡ room_verdict d initial offsets words output
  unfolding room_verdict
  refused cause e = rw (verdict-append, e)

  module _ (passed : verdict (set_checks d (length initial) (length offsets)) ≡ Ok tt) where
    short : output < words → Err Cause.OutputShort ≡ room_verdict d initial offsets words output
    unfolding room_verdict output_check
    short h = rw (verdict-append, passed, lt-ltb _ _ h)

    long : words ≤ output → Ok tt ≡ room_verdict d initial offsets words output
    unfolding room_verdict output_check
    long h = rw (verdict-append, passed, le-ltb _ _ h)

pub returns-in_err-set-clause-verdict : goal.returns-in_err-set-clause-verdict
returns-in_err-set-clause-verdict c =
    let r = err_from_is_err_and c.from_residual.result c.from_residual.ensures.1 in
    rw (r.1, r.2) (refused _ _ _ _ _ _ (sym c.in_err-set.ensures.verdict))

pub returns-then-output-words-clause-verdict : goal.returns-then-output-words-clause-verdict
returns-then-output-words-clause-verdict c = short _ _ _ _ _ (sym c.in_ok-set.ensures.verdict) c.if-output-words.true

pub returns-clause-verdict : goal.returns-clause-verdict
returns-clause-verdict c = long _ _ _ _ _ (sym c.in_ok-set.ensures.verdict) c.if-output-words.false
