-- `encoding::numbers::complement` meets its contract: the lowest 24 bits of a signed number are its two's complement in 3 bytes.
use mathlib.Core.Path.{◌≡◌}
use mathlib.Core.Bool.{true}
use Prim.Native.Nat.{◌%◌}
use native.Mathlib.Omega.{arith}
use lib.IntN.{ℤ, pos, negsuc}
use borrow.Author.Tests.{ltb-true}
use mir.Syntax.{w32}
use mir.Val.{of_z}
use mir.ValLaws.{to_z-of_z}
use Rattle.encoding.specs.Bytes.{entry_bytes, fits_signed, complement}
use Rattle.encoding.proofs.SignedBytes.{half}
use Rattle.encoding.proofs.numbers.complement.Goals as goal

low-bits : (v : ℤ) → fits_signed entry_bytes v ≡ true → of_z w32 v % 16777216 ≡ complement entry_bytes v
unfolding fits_signed complement
low-bits (pos n) fits = let small = ltb-true n half fits in omega arith
low-bits (negsuc n) fits = let small = ltb-true n half fits in omega arith

pub returns : goal.returns
returns c = rw (c.cast_unsigned.ensures, to_z-of_z w32 c.args.v c.ranges.v) (low-bits c.args.v c.requires)
