-- `values::rows::row_of` meets its contract: the constant table is the list of the definition.
use mathlib.Core.Path.{refl}
use borrow.Author.Rules.{rules}
use Rattle.values.specs.Rows.{rows, kinds, row_of}
use Rattle.values.proofs.rows.row_of.Goals as goal

pub bounds-kind-kind : goal.bounds-kind-kind
unfolding rows kinds
bounds-kind-kind c = search rules

pub returns : goal.returns
unfolding row_of
returns c = refl
