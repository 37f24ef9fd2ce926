-- `exports::design_numbers::numbers_of` meets its contract: the array is the list of the numbers.
use mathlib.Core.Path.{refl}
use Rattle.exports.specs.Numbers.{numbers_of}
use Rattle.exports.proofs.design_numbers.numbers_of.Goals as goal

pub returns : goal.returns
unfolding numbers_of
returns c = refl
