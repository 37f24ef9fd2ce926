-- `encoding::numbers::fits` meets its contract: the test is that of the definition.
use mathlib.Core.Path.{refl}
use Rattle.encoding.specs.Bytes.{fits}
use Rattle.encoding.proofs.numbers.fits.Goals as goal

pub returns : goal.returns
unfolding fits
returns c = refl
