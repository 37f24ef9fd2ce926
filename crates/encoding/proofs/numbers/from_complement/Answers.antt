-- `encoding::numbers::from_complement` meets its contract: 2^24 is taken from a number of the upper half.
use mathlib.Core.Path.{◌≡◌, ap, ◌∙◌}
use Prim.Native.Nat.{ℕ, ◌≤◌, ◌<◌}
use native.Mathlib.Omega.{arith}
use lib.IntN.{ℤ, pos, ◌-ℤ◌}
use mir.Syntax.{w32}
use mir.Val.{SFits, to_z, of_z}
use mir.ValLaws.{to_z_pos, to_z-of_z}
use Rattle.encoding.specs.Bytes.{entry_bytes, from_complement}
use Rattle.encoding.proofs.SignedBytes.{whole, half, lower-half, upper-half, from-complement-fits}
use Rattle.encoding.proofs.numbers.from_complement.Goals as goal

module _ (n : ℕ) (small : n < whole) where
  count : to_z w32 n ≡ pos n
  count = to_z_pos w32 n (omega arith)

  module _ (upper : half ≤ n) where
    difference : to_z w32 n -ℤ pos whole ≡ from_complement entry_bytes n
    difference = ap (λ (z : ℤ). z -ℤ pos whole) count ∙ upper-half n upper small

    difference-fits : SFits w32 (to_z w32 n -ℤ pos whole)
    difference-fits = rw difference (record { sfits = from-complement-fits n small })

    difference-read : to_z w32 (of_z w32 (to_z w32 n -ℤ pos whole)) ≡ from_complement entry_bytes n
    difference-read = to_z-of_z w32 _ difference-fits ∙ difference

pub returns-then-n-lt8388608 : goal.returns-then-n-lt8388608
returns-then-n-lt8388608 c = count _ c.requires ∙ lower-half _ c.if-n-lt8388608.true

pub overflow_sub-result : goal.overflow_sub-result
overflow_sub-result c = difference-fits _ c.requires c.if-n-lt8388608.false

pub returns : goal.returns
returns c = difference-read _ c.requires c.if-n-lt8388608.false
