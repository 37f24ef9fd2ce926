-- `entries::with_sign` meets its contract: (1 - 2·s)·T - s is T or -1 - T by the sign, and every step on the way is small.
use mathlib.Core.Path.{◌≡◌, ◌∙◌}
use Prim.Native.Nat.{ℕ, ◌≤◌, ◌<◌}
use native.Mathlib.Omega.{arith}
use lib.IntN.{pos, ◌-ℤ◌, ◌*ℤ◌}
use mir.Syntax.{w32}
use mir.Val.{SFits, to_z, of_z}
use mir.ValLaws.{to_z_pos, to_z-of_z}
use Rattle.entries.specs.Inputs.{offset_bound}
use Rattle.entries.specs.Signs.{entry_by, by_arithmetic}
use Rattle.entries.proofs.SignLaws.{bit_is, twice-fits, twice-is, by-arithmetic, factor-small, product_small, entry-mag}
use Rattle.entries.proofs.with_sign.Goals as goal

-- 1 - 2·s, as its bits are read,
module _ (s : ℕ) (s-lt : s < 2) where
  factor-fits : SFits w32 (pos 1 -ℤ to_z w32 (of_z w32 (pos 2 *ℤ to_z w32 s)))
  factor-fits = rw (twice-is s s-lt) (record { sfits = omega (arith, factor-small s s-lt) })

  abbrev factor : ℕ
  factor = of_z w32 (pos 1 -ℤ to_z w32 (of_z w32 (pos 2 *ℤ to_z w32 s)))

  -- its product with T, and the entry
  module _ (t : ℕ) (t-le : t ≤ offset_bound) where
    product_is : to_z w32 factor *ℤ to_z w32 t ≡ (pos 1 -ℤ pos 2 *ℤ pos s) *ℤ pos t
    product_is = rw (to_z-of_z w32 _ factor-fits, twice-is s s-lt, to_z_pos w32 t (omega arith))

    product-fits : SFits w32 (to_z w32 factor *ℤ to_z w32 t)
    product-fits = rw product_is (record { sfits = omega (arith, product_small s t s-lt) })

    sum_is : to_z w32 (of_z w32 (to_z w32 factor *ℤ to_z w32 t)) -ℤ to_z w32 s ≡ entry_by s t
    sum_is = rw (to_z-of_z w32 _ product-fits, product_is, bit_is s s-lt) (unfold by_arithmetic in by-arithmetic s t s-lt)

    sum_fits : SFits w32 (to_z w32 (of_z w32 (to_z w32 factor *ℤ to_z w32 t)) -ℤ to_z w32 s)
    sum_fits = rw sum_is (record { sfits = omega (arith, entry-mag s t) })

    entry-is : to_z w32 (of_z w32 (to_z w32 (of_z w32 (to_z w32 factor *ℤ to_z w32 t)) -ℤ to_z w32 s)) ≡ entry_by s t
    entry-is = to_z-of_z w32 _ sum_fits ∙ sum_is

pub returns : goal.returns
returns c = entry-is _ c.requires.0 _ c.requires.1

pub overflow_mul-result : goal.overflow_mul-result
overflow_mul-result c = twice-fits _ c.requires.0

pub overflow_sub-result : goal.overflow_sub-result
overflow_sub-result c = factor-fits _ c.requires.0

pub overflow_mul-result-2 : goal.overflow_mul-result-2
overflow_mul-result-2 c = product-fits _ c.requires.0 _ c.requires.1

pub overflow_sub-result-2 : goal.overflow_sub-result-2
overflow_sub-result-2 c = sum_fits _ c.requires.0 _ c.requires.1
