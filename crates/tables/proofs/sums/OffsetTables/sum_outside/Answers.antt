-- `tables::sums::OffsetTables::sum_outside` meets its contract: the limit of a legal design is small.
use native.Mathlib.Omega.{arith}
use Rattle.design.proofs.LegalLaws.{limits, sum-limit-small}
use Rattle.tables.specs.Sum.{sum_outside}
use Rattle.tables.proofs.sums.OffsetTables.sum_outside.Goals as goal

pub overflow_add-self : goal.overflow_add-self
overflow_add-self c = omega (arith, (limits _ c.args.self.legal).widths)

pub overflow_add-self-2 : goal.overflow_add-self-2
overflow_add-self-2 c = omega (arith, (limits _ c.args.self.legal).widths)

pub pow2-requires : goal.pow2-requires
pow2-requires c = omega (arith, (limits _ c.args.self.legal).widths)

pub is_outside-requires : goal.is_outside-requires
is_outside-requires c = rw c.pow2.ensures (sum-limit-small _ (limits _ c.args.self.legal))

pub returns : goal.returns
unfolding sum_outside
returns c = rw c.pow2.ensures at c.is_outside.ensures
