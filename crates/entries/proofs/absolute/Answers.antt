-- `entries::absolute` meets its contract: j times 1 or -1, by the side of 0 on which it lies, is |j|.
use mathlib.Core.Path.{◌≡◌, ◌∙◌}
use Prim.Native.Nat.{ℕ, ◌≤◌}
use native.Mathlib.Omega.{arith}
use lib.IntN.{ℤ, pos, nat_abs, ◌-ℤ◌, ◌*ℤ◌}
use lib.Pow.{pow_mono}
use mir.Syntax.{w32}
use mir.Val.{SFits, to_z, of_z}
use mir.ValLaws.{to_z-of_z}
use Rattle.values.specs.Room.{widest_word, word_bound}
use Rattle.entries.specs.Entries.{odd_number}
use Rattle.entries.specs.Inputs.{WordInput}
use Rattle.entries.specs.Signs.{side_of}
use Rattle.entries.proofs.EntryBounds.{odd-small}
use Rattle.entries.proofs.SignLaws.{side-small, side-factor-small, side-times, twice-fits, twice-is}
use Rattle.entries.proofs.absolute.Goals as goal
use Rattle.entries.proofs.absolute.Goals.{After-odd_number-j}

-- the side and 1 or -1, as their bits are read,
module _ (j : ℤ) where
  side-fits : SFits w32 (pos (side_of j))
  side-fits = record { sfits = omega (arith, side-small j) }

  factor-fits : SFits w32 (to_z w32 (of_z w32 (pos 2 *ℤ to_z w32 (side_of j))) -ℤ pos 1)
  factor-fits = rw (twice-is (side_of j) (side-small j)) (record { sfits = omega (arith, side-factor-small j) })

  abbrev factor : ℕ
  factor = of_z w32 (to_z w32 (of_z w32 (pos 2 *ℤ to_z w32 (side_of j))) -ℤ pos 1)

  -- and the product with j
  module _ (small : nat_abs j ≤ word_bound) where
    product_is : to_z w32 factor *ℤ j ≡ pos (nat_abs j)
    product_is = rw (to_z-of_z w32 _ factor-fits, twice-is (side_of j) (side-small j)) (side-times j)

    product-fits : SFits w32 (to_z w32 factor *ℤ j)
    product-fits = rw product_is (record { sfits = omega arith })

    size_is : to_z w32 (of_z w32 (to_z w32 factor *ℤ j)) ≡ pos (nat_abs j)
    size_is = to_z-of_z w32 _ product-fits ∙ product_is

j-small : (b B : ℕ) → WordInput b B → nat_abs (odd_number b B) ≤ word_bound
j-small b B input = omega (arith, odd-small b B input.B-lt, pow_mono {i = b} {j = widest_word} input.b-small)

-- j, as its bits are read
odd_is : (c : After-odd_number-j) → to_z w32 (of_z w32 c.odd_number-j.result) ≡ odd_number c.args.b c.args.word
odd_is c = to_z-of_z w32 _ (record { sfits = c.odd_number-j.type_inv }) ∙ c.odd_number-j.ensures

pub returns : goal.returns
returns c =
    rw (c.top_bit.ensures, odd_is c.before, size_is _ (j-small _ _ c.requires))

pub overflow_cast-factor : goal.overflow_cast-factor
overflow_cast-factor c = rw c.top_bit.ensures (side-fits _)

pub overflow_mul-factor : goal.overflow_mul-factor
overflow_mul-factor c = rw c.top_bit.ensures (twice-fits _ (side-small _))

pub overflow_sub-factor : goal.overflow_sub-factor
overflow_sub-factor c = rw c.top_bit.ensures (factor-fits _)

pub overflow_mul-result : goal.overflow_mul-result
overflow_mul-result c = rw (c.top_bit.ensures, odd_is c.before) (product-fits _ (j-small _ _ c.requires))

pub overflow_cast-result : goal.overflow_cast-result
overflow_cast-result c =
    let small = j-small _ _ c.requires in
    rw (c.top_bit.ensures, odd_is c.before, size_is _ small) (tt, omega (arith, small))
