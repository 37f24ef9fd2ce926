-- `tables::sums::sum_outside` meets its contract: the limit of a legal design is small.
use Rattle.design.proofs.LegalLaws.{limits, sum-limit-small}
use Rattle.tables.specs.Sum.{sum_outside}
use Rattle.tables.proofs.sums.sum_outside.Goals as goal

pub is_outside-requires : goal.is_outside-requires
is_outside-requires c = rw c.sum_limit.ensures (sum-limit-small _ (limits _ c.args.legal.legal))

pub returns : goal.returns
unfolding sum_outside
returns c = rw c.sum_limit.ensures at c.is_outside.ensures
