-- `evaluating::write_words` meets its contract: after n turns the output is `written .. n`.
use mathlib.Core.Path.{◌≡◌, ap, ap₂, ◌∙◌}
use mathlib.Core.List.{List}
use Prim.Native.Nat.{ℕ}
use native.Mathlib.Omega.{arith}
use lib.ListN.{length, set}
use Rattle.general.proofs.WritingLaws.{over_none}
use Rattle.values.specs.declared.OutputUnits.{OutputUnits}
use Rattle.evaluating.specs.Batch.{place_verdict}
use Rattle.evaluating.proofs.BatchLaws.{written-more, written_all}
use Rattle.evaluating.proofs.write_words.Goals as goal

pub loop-n-init : goal.loop-n-init
loop-n-init c = over_none _ 0

pub word-requires : goal.word-requires
unfolding place_verdict
word-requires c = c.requires.by_index _ c.loop-n-test.true

pub loop-n-preserved : goal.loop-n-preserved
loop-n-preserved c =
    let word-is = ap (λ (units : OutputUnits). units.0) c.word.ensures in
    ap₂ (λ (output : List ℕ) (word : ℕ). set output c.loop-n.n word) c.loop-n.invariant word-is
    ∙ written-more _ c.args.words.now _ c.requires.words_in_bounds _ c.loop-n-test.true

pub returns : goal.returns
returns c =
    let end : c.loop-n.n ≡ length c.args.words.now = omega arith in
    rw end at c.loop-n.invariant ∙ written_all _ c.args.words.now _ c.requires.words_in_bounds
