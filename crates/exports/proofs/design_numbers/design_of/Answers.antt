-- `exports::design_numbers::design_of` meets its contract: each number is read at its place.
use mathlib.Core.Path.{refl}
use Rattle.exports.specs.Numbers.{design_of}
use Rattle.exports.proofs.design_numbers.design_of.Goals as goal

pub returns : goal.returns
unfolding design_of
returns c = refl
