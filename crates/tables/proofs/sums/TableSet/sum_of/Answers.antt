-- `tables::sums::TableSet::sum_of` meets its contract: the initial word numbers an entry, from which the sum goes on.
use native.Mathlib.Nat.{lt_of_lt_of_le}
use native.Mathlib.Omega.{arith}
use Rattle.design.specs.Cut.{initial_word}
use Rattle.design.proofs.LegalLaws.{limits}
use Rattle.design.proofs.CutLaws.{initial-word-lt}
use Rattle.tables.specs.Sum.{sum_at}
use Rattle.tables.proofs.sums.TableSet.sum_of.Goals as goal

pub overflow_sub-entry : goal.overflow_sub-entry
overflow_sub-entry c = omega (arith, limits _ c.args.self.tables.legal)

pub overflow_shr-entry : goal.overflow_shr-entry
overflow_shr-entry c = omega (arith, (limits _ c.args.self.tables.legal).widths.room.w-small)

-- the initial word numbers an entry
pub bounds-self-x : goal.bounds-self-x
unfolding initial_word
bounds-self-x c =
    lt_of_lt_of_le (initial-word-lt _ (limits _ c.args.self.tables.legal) _ c.requires) c.args.self.initial_long

pub returns : goal.returns
unfolding sum_at initial_word
returns c = c.sum_from.ensures
