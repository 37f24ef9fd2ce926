-- The widest offset of a table has T of the largest |j| and of the largest Hi + Lo, and the bits that hold it hold every offset.
use mathlib.Core.Path.{◌≡◌, refl, sym, ◌∙◌}
use mathlib.Core.Bool.{Bool, true, false, cond, ◌&&◌}
use Prim.Native.Nat.{ℕ, zero, suc, ◌+◌, ◌-◌, ◌*◌, ◌^◌, ◌≤◌, ◌<◌}
use native.Mathlib.Nat.{lt_of_le_of_lt, mul-le-mul, mul-le-mul_right}
use native.Mathlib.Omega.{arith}
use borrow.Author.Tests.{ltb-true, lt-ltb}
use lib.Dec.{ltb, leb, leb-suc-suc}
use lib.IntN.{ℤ, pos, negsuc, nat_abs, neg_ℤ}
use lib.Signed.{mag, le_z, lt_z}
use lib.Pow.{pow_pos, ones_lt, shr_mono}
use Rattle.general.proofs.Tests.{same_test}
use Rattle.general.proofs.Sums.{each_of, every_of, largest-above, largest-reached}
use Rattle.general.proofs.FirstLaws.{first-same}
use Rattle.general.proofs.SignedLaws.{difference-less, difference-is}
use Rattle.values.specs.Slopes.{slope_sum, largest_sum}
use Rattle.design.specs.declared.Design.{Design}
use Rattle.design.specs.Cut.{a_of, b_of, row, fraction_bits, position}
use Rattle.entries.specs.Entries.{hi_at, lo_at, odd_number, magnitude, same_sign, signed, offset_of, offset_at}
use Rattle.sizing.specs.Width.{holds, holds_all, most_bits, offset_bits}
use Rattle.sizing.specs.Widest.{widest_offset, bits_for}

-- n bits hold T and -1 - T exactly where T is below 2^(n-1).
and-true : (t : Bool) → t && true ≡ t
and-true true = refl
and-true false = refl

in-range : (half : ℕ) → 0 < half → (z : ℤ) → le_z (neg_ℤ (pos half)) z && lt_z z (pos half) ≡ ltb (mag z) half
in-range zero some z = absurd (omega arith)
in-range (suc k) some (pos T) = refl
in-range (suc k) some (negsuc T) = and-true (leb T k) ∙ sym (leb-suc-suc T k)

pub holds-is : (n : ℕ) (z : ℤ) → holds n z ≡ ltb (mag z) (2 ^ (n - 1))
unfolding holds
holds-is n z = in-range (2 ^ (n - 1)) (pow_pos (n - 1)) z

-- |j| is at most 2^b - 1, and it is so much for the last B.
odd-most : (b B : ℕ) → B < 2 ^ b → nat_abs (odd_number b B) ≤ 2 ^ b - 1
unfolding odd_number
odd-most b B B-lt = difference-less (2 * B + 1) (2 ^ b) (omega arith) (omega arith)

odd-last : (b : ℕ) → nat_abs (odd_number b (2 ^ b - 1)) ≡ 2 ^ b - 1
unfolding odd_number
odd-last b = difference-is (2 * (2 ^ b - 1) + 1) (2 ^ b) (omega (arith, pow_pos b)) ∙ omega (arith, pow_pos b)

-- T of an offset, by Hi + Lo, b and p: it is the widest one's at most,
module _ (slopes b p : ℕ) where
  size_is : (rising : Bool) (B : ℕ) → mag (offset_of slopes b p rising B) ≡ magnitude slopes p (odd_number b B)
  unfolding offset_of signed
  size_is rising B = either (same_sign rising (odd_number b B)) (magnitude slopes p (odd_number b B)) where
    either : (t : Bool) (T : ℕ) → mag (cond t (pos T) (negsuc T)) ≡ T
    either true T = refl
    either false T = refl

  no-wider : (most : ℕ) → slopes ≤ most → (rising : Bool) (B : ℕ) → B < 2 ^ b → mag (offset_of slopes b p rising B) ≤ widest_offset most b p
  unfolding magnitude widest_offset
  no-wider most flatter rising B B-lt =
      rw (size_is rising B) (shr_mono 18 (mul-le-mul_right (2 ^ p) (mul-le-mul flatter (odd-most b B B-lt))))

  -- and the last one's is that.
  as_wide : (rising : Bool) → mag (offset_of slopes b p rising (2 ^ b - 1)) ≡ widest_offset slopes b p
  unfolding magnitude widest_offset
  as_wide rising = size_is rising (2 ^ b - 1) ∙ rw (odd-last b)

-- In a table of a design
module _ (d : Design) (i : ℕ) where
  abbrev pub widest_in : ℕ
  widest_in = widest_offset (largest_sum (row d) d.w (fraction_bits d) (a_of d i)) (b_of d i) (position d i)

  abbrev sums : ℕ → ℕ
  sums = slope_sum (row d) d.w (fraction_bits d) (a_of d i)

  offset-is : (A B : ℕ) → offset_at d i A B ≡ offset_of (sums A) (b_of d i) (position d i) (row d).rising B
  unfolding offset_at hi_at lo_at slope_sum
  offset-is A B = refl

  module _ (n : ℕ) where
    all_held : widest_in < 2 ^ (n - 1) → holds_all d i n ≡ true
    unfolding holds_all largest_sum
    all_held enough =
        every_of (2 ^ a_of d i) _ (λ A A-lt. every_of (2 ^ b_of d i) _ (λ B B-lt. held A A-lt B B-lt)) where
          held : (A : ℕ) → A < 2 ^ a_of d i → (B : ℕ) → B < 2 ^ b_of d i → holds n (offset_at d i A B) ≡ true
          held A A-lt B B-lt =
              let narrower = no-wider (sums A) (b_of d i) (position d i) _ (largest-above (2 ^ a_of d i) sums A A-lt) (row d).rising B B-lt in
              rw (offset-is A B) (holds-is n _ ∙ lt-ltb _ (2 ^ (n - 1)) (lt_of_le_of_lt narrower enough))

    widest-held : holds_all d i n ≡ true → widest_in < 2 ^ (n - 1)
    unfolding holds_all largest_sum
    widest-held all =
        let steepest = largest-reached (2 ^ a_of d i) sums (pow_pos (a_of d i)) in
        let A = steepest.0 in
        let last = 2 ^ b_of d i - 1 in
        let held = each_of (2 ^ b_of d i) _ (each_of (2 ^ a_of d i) _ all A steepest.1) last (ones_lt (b_of d i)) in
        let size : mag (offset_at d i A last) ≡ widest_in
        = rw (offset-is A last, ← steepest.2) (as_wide (sums A) (b_of d i) (position d i) (row d).rising) in
        rw size at (ltb-true (mag (offset_at d i A last)) (2 ^ (n - 1)) (sym (holds-is n (offset_at d i A last)) ∙ held))

    pub held-is : holds_all d i n ≡ ltb widest_in (2 ^ (n - 1))
    held-is = same_test _ _ (λ all. lt-ltb _ _ (widest-held all)) (λ enough. all_held (ltb-true _ _ enough))

  -- So the bits of the widest are those of all.
  pub offset-bits-is : offset_bits d i ≡ bits_for widest_in
  unfolding offset_bits bits_for
  offset-bits-is = first-same 1 (most_bits - 1) (holds_all d i) (λ n. ltb widest_in (2 ^ (n - 1))) (λ n from. held-is n)
