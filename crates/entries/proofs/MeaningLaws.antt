-- An offset means what it should: it stands for (Hi+Lo)·j·2^p with the function's sign, and mirrored offsets add up to -1.
use mathlib.Core.Path.{◌≡◌, refl, ap, ◌∙◌}
use mathlib.Core.Bool.{Bool, true, false, cond, not}
use Prim.Native.Nat.{ℕ, zero, suc, ◌+◌, ◌-◌, ◌*◌, ◌/◌, ◌%◌, ◌^◌, ◌≤◌, ◌<◌}
use native.Mathlib.Nat.{mul-div-le, lt-mul-div-succ, mul-pos, zero-mul}
use native.Mathlib.Omega.{arith}
use borrow.Author.Tests.{ltb-true, ltb-false, lt-ltb, le-ltb}
use lib.Dec.{ltb, le→leb, lt→ltb}
use lib.IntN.{ℤ, pos, negsuc, sub_ℕ, nat_abs, neg_ℤ, neg_ℤ-neg_ℤ, ◌+ℤ◌, ◌*ℤ◌}
use lib.Pow.{pow_pos}
use lib.Signed.{non_neg, ◌≤ℤ◌, ◌<ℤ◌}
use Rattle.values.specs.Slopes.{hi}
use Rattle.design.specs.declared.Design.{Design}
use Rattle.design.specs.Stored.{stored_index, stored_word, offset_from}
use Rattle.design.specs.Cut.{b_of, row, position}
use Rattle.entries.specs.Entries.{hi_at, lo_at, odd_number, magnitude, same_sign, signed, offset_of, offset_at}
use Rattle.entries.specs.Meaning.{signed_product, StandsFor, Meaning}
use Rattle.entries.proofs.SignLaws.{even}

-- Orders of numbers below zero
neg-le : (m n : ℕ) → m ≤ n → neg_ℤ (pos n) ≤ℤ neg_ℤ (pos m)
neg-le zero zero h = record { le = tt }
neg-le zero (suc n) h = record { le = tt }
neg-le (suc m) zero h = absurd (omega arith)
neg-le (suc m) (suc n) h = record { le = le→leb m n (omega arith) }

neg-lt : (m n : ℕ) → m < n → neg_ℤ (pos n) <ℤ neg_ℤ (pos m)
neg-lt m zero h = absurd (omega arith)
neg-lt zero (suc n) h = record { lt = tt }
neg-lt (suc m) (suc n) h = record { lt = lt→ltb m n (omega arith) }

neg-times : (n unit : ℕ) → neg_ℤ (pos n) *ℤ pos unit ≡ neg_ℤ (pos (n * unit))
neg-times zero unit = rw (zero-mul unit)
neg-times (suc n) unit = refl

-- The product by its size and by whether j has the function's sign
pub product_is : (slopes p : ℕ) (rising : Bool) (j : ℤ) → let size = slopes * nat_abs j * 2 ^ p in
    signed_product slopes p rising j ≡ cond (same_sign rising j) (pos size) (neg_ℤ (pos size))
unfolding signed_product same_sign
product_is slopes p true (pos n) = refl
product_is slopes p true (negsuc n) = neg-times (slopes * suc n) (2 ^ p)
product_is slopes p false (pos n) = refl
product_is slopes p false (negsuc n) = ap neg_ℤ (neg-times (slopes * suc n) (2 ^ p)) ∙ neg_ℤ-neg_ℤ (pos (slopes * suc n * 2 ^ p))

-- T and -1 - T stand for what T is cut from, above zero and below.
cut_stands : (t : Bool) (size : ℕ) → let T = size / 2 ^ 18 in
    StandsFor (cond t (pos T) (negsuc T)) (cond t (pos size) (neg_ℤ (pos size)))
unfolding StandsFor
cut_stands true size = (
  record { le = le→leb _ _ (mul-div-le size (2 ^ 18)) },
  record { lt = lt→ltb _ _ (lt-mul-div-succ size (pow_pos 18)) },
)
cut_stands false size = (neg-lt _ _ (lt-mul-div-succ size (pow_pos 18)), neg-le _ _ (mul-div-le size (2 ^ 18)))

offset-stands : (slopes b p : ℕ) (rising : Bool) (B : ℕ)
    → StandsFor (offset_of slopes b p rising B) (signed_product slopes p rising (odd_number b B))
unfolding offset_of signed magnitude
offset-stands slopes b p rising B =
    rw (product_is slopes p rising (odd_number b B)) (cut_stands (same_sign rising (odd_number b B)) _)

-- j is odd, since 2^b is even; n for 2^b.
odd-difference : (B half n : ℕ) → n ≡ 2 * half → nat_abs (sub_ℕ (2 * B + 1) n) % 2 ≡ 1
odd-difference B half n twice = go (ltb (2 * B + 1) n) refl
  where
    go : (t : Bool) → ltb (2 * B + 1) n ≡ t → nat_abs (cond t (negsuc (n - suc (2 * B + 1))) (pos (2 * B + 1 - n))) % 2 ≡ 1
    go true e = omega (arith, ltb-true (2 * B + 1) n e)
    go false e = omega (arith, ltb-false (2 * B + 1) n e)

-- B and 2^b - 1 - B have opposite j.
record Opposite (j k : ℤ) : Type 0 where
  size : nat_abs k ≡ nat_abs j
  sign : non_neg k ≡ not (non_neg j)

opposite : (B half n : ℕ) → n ≡ 2 * half → B < n → Opposite (sub_ℕ (2 * B + 1) n) (sub_ℕ (2 * (n - 1 - B) + 1) n)
opposite B half n twice h = go (ltb (2 * B + 1) n) refl
  where
    other : ℕ
    other = 2 * (n - 1 - B) + 1

    go : (t : Bool) → ltb (2 * B + 1) n ≡ t → Opposite (cond t (negsuc (n - suc (2 * B + 1))) (pos (2 * B + 1 - n))) (sub_ℕ other n)
    go true e =
        let less = ltb-true (2 * B + 1) n e in
        rw (le-ltb other n (omega arith)) (record { size = omega arith; sign = refl })
    go false e =
        let more = ltb-false (2 * B + 1) n e in
        rw (lt-ltb other n (omega arith)) (record { size = omega arith; sign = refl })

-- T and -1 - T, whichever comes first
minus_one : (t : Bool) (T : ℕ) → cond t (pos T) (negsuc T) +ℤ cond (not t) (pos T) (negsuc T) ≡ negsuc 0
minus_one true T = rw (lt-ltb T (suc T) (omega arith)) (ap negsuc (omega arith))
minus_one false T = rw (lt-ltb T (suc T) (omega arith)) (ap negsuc (omega arith))

turn-sign : (rising t : Bool) → cond rising (not t) (not (not t)) ≡ not (cond rising t (not t))
turn-sign true t = refl
turn-sign false t = refl

-- A number that is not 0 is not 0 with either sign.
signed-zero : (t : Bool) (size : ℕ) → 1 ≤ size → cond t (pos size) (neg_ℤ (pos size)) ≡ pos 0 → ⊥
signed-zero true zero h e = absurd (omega arith)
signed-zero true (suc n) h e = let z : suc n ≡ 0 = cc in absurd (omega arith)
signed-zero false zero h e = absurd (omega arith)
signed-zero false (suc n) h e = let z : ◌≡◌ {A = ℕ} 0 1 = cc in absurd (omega arith)

module _ (slopes b p : ℕ) (rising : Bool) (B : ℕ) (slopes-pos : 1 ≤ slopes) (b-pos : 1 ≤ b) (B-lt : B < 2 ^ b) where
  mirror : offset_of slopes b p rising B +ℤ offset_of slopes b p rising (2 ^ b - 1 - B) ≡ negsuc 0
  unfolding offset_of signed magnitude same_sign odd_number
  mirror =
      let o = opposite B (2 ^ (b - 1)) (2 ^ b) (even b b-pos) B-lt in
      let up = non_neg (sub_ℕ (2 * B + 1) (2 ^ b)) in
      rw (o.size, o.sign, turn-sign) (minus_one (cond rising up (not up)) _)

  odd-number : nat_abs (odd_number b B) % 2 ≡ 1
  unfolding odd_number
  odd-number = odd-difference B (2 ^ (b - 1)) (2 ^ b) (even b b-pos)

  product-positive : 1 ≤ slopes * nat_abs (odd_number b B) * 2 ^ p
  product-positive = mul-pos (mul-pos slopes-pos (omega (arith, odd-number))) (pow_pos p)

  pub offset-means : Meaning slopes b p rising B (offset_of slopes b p rising B)
  offset-means =
      record {
        odd = odd-number;
        not-zero = rw (product_is slopes p rising (odd_number b B)) (signed-zero (same_sign rising (odd_number b B)) _ product-positive);
        stands = offset-stands slopes b p rising B;
        mirrored = mirror;
      }

-- The entries of a design's tables
pub entry-means : (d : Design) (i A B : ℕ) → 1 ≤ b_of d i → B < 2 ^ b_of d i
    → Meaning (hi_at d i A + lo_at d i A) (b_of d i) (position d i) (row d).rising B (offset_at d i A B)
unfolding offset_at hi_at hi
entry-means d i A B = offset-means _ _ _ _ B (omega arith)

-- What B reads tells B's offset.
pub stored_back : (d : Design) (i A B : ℕ) → 1 ≤ b_of d i → B < 2 ^ b_of d i
    → offset_from d i B (offset_at d i A (stored_word d i (stored_index d i B))) ≡ offset_at d i A B
unfolding offset_from stored_word stored_index
stored_back d i A B b-low h = refl
