-- `entries::magnitude_of` meets its contract.
use Prim.Native.Nat.{ℕ, ◌*◌, ◌^◌, ◌≤◌}
use native.Mathlib.Nat.{mul-le-mul_left}
use native.Mathlib.Omega.{arith}
use lib.Pow.{pow_pos}
use Rattle.entries.specs.Entries.{magnitude}
use Rattle.entries.proofs.magnitude_of.Goals as goal

pub returns : goal.returns
unfolding magnitude
returns c = rw c.pow2.ensures

-- the product without 2^p is no larger
half : (n p bound : ℕ) → n * 2 ^ p ≤ bound → n ≤ bound
half n p bound small = omega (arith, mul-le-mul_left n (pow_pos p))

pub overflow_mul-result : goal.overflow_mul-result
overflow_mul-result c = omega (arith, half _ _ _ c.requires.0)

pub overflow_mul-result-2 : goal.overflow_mul-result-2
overflow_mul-result-2 c = rw c.pow2.ensures (omega (arith, c.requires.0))
