-- `evaluating::word_answer` meets its contract: the word's range, then that of its sum, then the word.
use Rattle.std.specs.Prelude.{Ok}
use mathlib.Core.Path.{refl, sym, ap, ◌∙◌}
use Prim.Native.Nat.{◌^◌, ◌<◌}
use native.Mathlib.Omega.{arith}
use Rattle.design.proofs.LegalLaws.{limits}
use Rattle.tables.specs.Sum.{word_at}
use Rattle.evaluating.proofs.WordLaws.{word-past, sum-refused, word-passed}
use Rattle.evaluating.proofs.word_answer.Goals as goal

pub pow2-requires : goal.pow2-requires
pow2-requires c = omega (arith, (limits _ c.args.set.tables.legal).widths.room.w-small)

pub returns-then-pow2-x : goal.returns-then-pow2-x
returns-then-pow2-x c =
    let s = c.args.set in
    rw (word-past s.tables.design s.initial.now s.tables.offsets.now c.args.x (omega (arith, c.pow2.ensures))) refl

pub returns-then-sum_outside : goal.returns-then-sum_outside
returns-then-sum_outside c =
    let low : c.args.x < 2 ^ c.args.set.tables.design.w = omega (arith, c.pow2.ensures) in
    let tested = rw c.sum_of-sum.ensures at c.sum_outside.ensures in
    rw (sum-refused _ _ _ _ low (sym tested ∙ c.if-sum_outside.true)) refl

pub returns : goal.returns
unfolding word_at
returns c =
    let low : c.args.x < 2 ^ c.args.set.tables.design.w = omega (arith, c.pow2.ensures) in
    let tested = rw c.sum_of-sum.ensures at c.sum_outside.ensures in
    rw (word-passed _ _ _ _ low (sym tested ∙ c.if-sum_outside.false)) (ap Ok (rw c.sum_of-sum.ensures at c.word_of.ensures))
