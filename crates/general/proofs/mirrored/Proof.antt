-- `general::mirrored` meets its contract: -1 less a number is as large as that.
use mathlib.Core.Path.{◌≡◌, ◌∙◌}
use native.Mathlib.Omega.{arith}
use lib.IntN.{ℤ, negsuc, ◌-ℤ◌}
use mir.Syntax.{w32}
use mir.Val.{SFits, to_z, of_z}
use mir.ValLaws.{to_z-of_z}
use Rattle.general.proofs.SignedLaws.{mirror-mag}
use Rattle.general.proofs.mirrored.Statement.{statement}
use Rattle.general.proofs.mirrored.Tie as tie

module _ (e : ℤ) (e-fits : SFits w32 e) where
  read : to_z w32 (of_z w32 e) ≡ e
  read = to_z-of_z w32 e e-fits

  mirror-fits : SFits w32 (negsuc 0 -ℤ to_z w32 (of_z w32 e))
  mirror-fits = rw read (record { sfits = omega (arith, mirror-mag e, e-fits.sfits) })

  result-is : to_z w32 (of_z w32 (negsuc 0 -ℤ to_z w32 (of_z w32 e))) ≡ negsuc 0 -ℤ e
  result-is = to_z-of_z w32 _ mirror-fits ∙ rw read

returns : tie.Need-returns
returns c = result-is _ c.ranges.entry

sub-result : tie.Need-overflow_sub-result
sub-result c = mirror-fits _ c.ranges.entry

pub mirrored_spec : {M : Type 1} → statement M
mirrored_spec = tie.close (tie.spec sub-result returns)
