-- `evaluating::words_verdict` meets its contract: where every sum is in range, 12 alone decides.
use mathlib.Core.Path.{◌∙◌}
use native.Mathlib.Omega.{arith}
use lib.Pow.{pow_mono}
use Rattle.design.specs.Limits.{most_initial_bits}
use Rattle.design.proofs.LegalLaws.{limits}
use Rattle.design.proofs.StoredLaws.{offset-total-small}
use Rattle.evaluating.proofs.RangeLaws.{width-answers}
use Rattle.evaluating.proofs.words_verdict.Goals as goal

pub pow2-requires : goal.pow2-requires
pow2-requires c = omega (arith, (limits _ c.args.set.tables.legal).alpha-high)

pub overflow_add-entries : goal.overflow_add-entries
overflow_add-entries c =
    let l = limits _ c.args.set.tables.legal in
    omega (arith, c.pow2.ensures, pow_mono {j = most_initial_bits} l.alpha-high, c.offset_total.ensures, offset-total-small _ l)

pub width_answer-requires : goal.width_answer-requires
width_answer-requires c =
    let l = limits _ c.args.set.tables.legal in
    omega (arith, l.widths.room.w-small)

pub returns-then-sums_in_range : goal.returns-then-sums_in_range
returns-then-sums_in_range c =
    let s = c.before.before.before in
    c.width_answer.ensures ∙ width-answers _ _ _ (s.sums_in_range.ensures c.if-sums_in_range.true) _
