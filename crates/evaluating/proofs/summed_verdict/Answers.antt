-- `evaluating::summed_verdict` meets its contract: every word before the present one passed, so the first that does not is the lowest.
use mathlib.Core.Path.{◌≡◌, sym, ◌∙◌}
use native.Mathlib.Omega.{arith}
use borrow.Author.Count.{below_more}
use lib.ListN.{length}
use Rattle.refusal.proofs.Answers.{answer-refused, answer-given}
use Rattle.evaluating.specs.Batch.{place_verdict}
use Rattle.evaluating.proofs.BatchLaws.{batch-all, batch-bad}
use Rattle.evaluating.proofs.summed_verdict.Goals as goal

pub returns-in-Err : goal.returns-in-Err
unfolding place_verdict
returns-in-Err c =
    sym (batch-bad _ _ _ _ c.loop-place-test.true c.loop-place.invariant (answer-refused _ _ (sym c.word_answer.ensures ∙ c.in-Err.is)))

pub loop-place-preserved : goal.loop-place-preserved
unfolding place_verdict
loop-place-preserved c =
    below_more _ _ c.loop-place.invariant (answer-given _ _ (sym c.word_answer.ensures ∙ c.in_default.is)).0

pub returns : goal.returns
returns c =
    let end : c.loop-place.place ≡ length c.args.words.now = omega arith in
    sym (batch-all _ _ (rw end at c.loop-place.invariant))
