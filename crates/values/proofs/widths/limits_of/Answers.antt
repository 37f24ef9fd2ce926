-- `values::widths::limits_of` meets its contract: the constants are those of the definition.
use mathlib.Core.Path.{refl}
use Rattle.values.specs.Widths.{limits_of}
use Rattle.values.proofs.widths.limits_of.Goals as goal

pub returns : goal.returns
unfolding limits_of
returns c = refl
