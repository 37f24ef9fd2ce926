-- Signs by arithmetic: the difference of two counts, B's top bit, |j| and the sign by it, and T or -1 - T by the sign.
use mathlib.Core.Path.{◌≡◌, refl, ap, ◌∙◌}
use mathlib.Core.Bool.{Bool, true, false, cond}
use Prim.Native.Nat.{ℕ, zero, suc, ◌+◌, ◌-◌, ◌*◌, ◌/◌, ◌^◌, ◌≤◌, ◌<◌}
use native.Mathlib.Nat.{not-suc-le-zero, one-mul, div-eq_of_lt, div-eq_of_lt-le}
use native.Mathlib.Omega.{arith}
use borrow.Author.Tests.{ltb-true, ltb-false}
use lib.Bits.{bit_xor}
use lib.Dec.{ltb}
use lib.IntN.{ℤ, pos, negsuc, sub_ℕ, nat_abs, ◌-ℤ◌, ◌*ℤ◌}
use lib.Pow.{pow-add}
use lib.Signed.{mag, non_neg}
use mir.Syntax.{w32}
use mir.Val.{SFits, to_z, of_z}
use mir.ValLaws.{to_z_pos, to_z-of_z}
use Rattle.entries.specs.Entries.{odd_number, same_sign, signed}
use Rattle.entries.specs.Signs.{side_of, sign_of, entry_by, by_arithmetic}

-- The difference of two numbers as a signed number
pub minus_is : (a b : ℕ) → 0 < b → pos a -ℤ pos b ≡ sub_ℕ a b
minus_is a zero h = absurd (not-suc-le-zero h)
minus_is a (suc b) h = refl

-- which lies within every bound of both.
module _ (a b : ℕ) where
  within : (H : ℕ) → a < H → b < H → (t : Bool) → ltb a b ≡ t → mag (cond t (negsuc (b - suc a)) (pos (a - b))) < H
  within H h k true e = omega (arith, ltb-true a b e)
  within H h k false e = omega (arith, ltb-false a b e)

  pub difference-mag : {H : ℕ} → a < H → b < H → mag (sub_ℕ a b) < H
  difference-mag {H} h k = within H h k (ltb a b) refl

-- 2^b is even.
pub even : (b : ℕ) → 1 ≤ b → 2 ^ b ≡ 2 * 2 ^ (b - 1)
even b h = let e : b - 1 + 1 ≡ b = omega arith in omega (arith, rw e at (pow-add 2 (b - 1) 1))

-- B's top bit tells on which side of 0 its j lies; half is 2^(b-1), and n is 2^b.
module _ (B half n : ℕ) (twice : n ≡ 2 * half) (B-lt : B < n) where
  by-half : (t : Bool) → ltb (2 * B + 1) n ≡ t
      → B / half ≡ cond (non_neg (cond t (negsuc (n - suc (2 * B + 1))) (pos (2 * B + 1 - n)))) 1 0
  by-half true e = div-eq_of_lt (omega (arith, ltb-true (2 * B + 1) n e))
  by-half false e = div-eq_of_lt-le half (omega (arith, ltb-false (2 * B + 1) n e)) (omega arith)

pub top-is : (b B : ℕ) → 1 ≤ b → B < 2 ^ b → B / 2 ^ (b - 1) ≡ side_of (odd_number b B)
unfolding side_of odd_number
top-is b B b-low B-lt = by-half B (2 ^ (b - 1)) (2 ^ b) (even b b-low) B-lt (ltb (2 * B + 1) (2 ^ b)) refl

pub side-small : (j : ℤ) → side_of j < 2
unfolding side_of
side-small (pos n) = omega arith
side-small (negsuc n) = omega arith

-- |j| is j times 1 above 0, and times -1 below: times twice the side less 1.
pub side-factor-small : (j : ℤ) → mag (pos 2 *ℤ pos (side_of j) -ℤ pos 1) ≤ 1
unfolding side_of
side-factor-small (pos n) = omega arith
side-factor-small (negsuc n) = omega arith

pub side-times : (j : ℤ) → (pos 2 *ℤ pos (side_of j) -ℤ pos 1) *ℤ j ≡ pos (nat_abs j)
unfolding side_of
side-times (pos n) = ap pos (one-mul n)
side-times (negsuc n) = ap pos (one-mul (suc n))

-- The sign is 0 where the side is 1 and the function rises, and where it is 0 and the function falls.
pub sign-is : (rising : Bool) (j : ℤ) → bit_xor (side_of j) (cond rising 1 0) ≡ sign_of rising j
unfolding side_of sign_of same_sign
sign-is true (pos n) = refl
sign-is true (negsuc n) = refl
sign-is false (pos n) = refl
sign-is false (negsuc n) = refl

pub sign_small : (rising : Bool) (j : ℤ) → sign_of rising j < 2
unfolding sign_of
sign_small rising j = go (same_sign rising j)
  where
    go : (t : Bool) → cond t 0 1 < 2
    go true = omega arith
    go false = omega arith

-- (1 - 2·s)·T - s is T or -1 - T,
pub by-arithmetic : (s T : ℕ) → s < 2 → by_arithmetic s T ≡ entry_by s T
unfolding by_arithmetic entry_by
by-arithmetic zero T h = ap pos (omega arith)
by-arithmetic (suc zero) zero h = refl
by-arithmetic (suc zero) (suc n) h = rw (one-mul (suc n)) (ap negsuc (omega arith))
by-arithmetic (suc (suc s)) T h = absurd (omega arith)

-- and what comes up on the way is not larger.
pub factor-small : (s : ℕ) → s < 2 → mag (pos 1 -ℤ pos 2 *ℤ pos s) ≤ 1
factor-small zero h = omega arith
factor-small (suc zero) h = omega arith
factor-small (suc (suc s)) h = absurd (omega arith)

pub product_small : (s T : ℕ) → s < 2 → mag ((pos 1 -ℤ pos 2 *ℤ pos s) *ℤ pos T) ≤ T
product_small zero T h = omega arith
product_small (suc zero) zero h = omega arith
product_small (suc zero) (suc n) h = rw (one-mul (suc n)) (omega arith)
product_small (suc (suc s)) T h = absurd (omega arith)

pub entry-mag : (s T : ℕ) → mag (entry_by s T) ≡ T
unfolding entry_by
entry-mag zero T = refl
entry-mag (suc s) T = refl

-- A bit and twice a bit, as their bits are read
module _ (n : ℕ) (n-lt : n < 2) where
  pub bit_is : to_z w32 n ≡ pos n
  bit_is = to_z_pos w32 n (omega arith)

  pub twice-fits : SFits w32 (pos 2 *ℤ to_z w32 n)
  twice-fits = rw bit_is (record { sfits = omega arith })

  pub twice-is : to_z w32 (of_z w32 (pos 2 *ℤ to_z w32 n)) ≡ pos 2 *ℤ pos n
  twice-is = to_z-of_z w32 _ twice-fits ∙ rw bit_is

-- Document 01's entry is the one by this sign.
pub signed_by : (rising : Bool) (j : ℤ) (T : ℕ) → entry_by (sign_of rising j) T ≡ signed rising j T
unfolding signed sign_of entry_by
signed_by rising j T = go (same_sign rising j)
  where
    go : (t : Bool) → entry_by (cond t 0 1) T ≡ cond t (pos T) (negsuc T)
    go true = refl
    go false = refl
