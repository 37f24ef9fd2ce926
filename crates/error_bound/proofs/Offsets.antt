-- What an offset means, in natural numbers: (Hi+Lo)·(done - left) / 2^18 lies between the offset and the offset plus 1, whichever
-- sign it has.
use mathlib.Core.Path.{◌≡◌}
use mathlib.Core.Bool.{Bool, true, false, cond}
use Prim.Native.Nat.{ℕ, zero, suc, ◌+◌, ◌-◌, ◌*◌, ◌^◌, ◌≤◌, ◌<◌}
use native.Mathlib.Omega.{arith}
use lib.Dec.{leb→le, ltb→lt}
use lib.IntN.{ℤ, pos, negsuc, nat_abs, neg_ℤ}
use lib.Signed.{◌≤ℤ◌, ◌<ℤ◌}
use Rattle.design.specs.declared.Design.{Design}
use Rattle.design.specs.Cut.{b_of, row, position, segment_word, offset_word}
use Rattle.design.proofs.LegalLaws.{Limits}
use Rattle.design.proofs.CutLaws.{offset-word-lt}
use Rattle.entries.specs.Entries.{hi_at, lo_at, odd_number, same_sign, offset_at}
use Rattle.entries.specs.Meaning.{signed_product, StandsFor}
use Rattle.entries.proofs.MeaningLaws.{product_is, entry-means}
use Rattle.error_bound.proofs.Path.{behind, ahead, done, left}
use Rattle.error_bound.proofs.Totals.{added, taken, Balance, difference}

-- Orders of signed numbers, by what they add and what they take
le_parts : (y z : ℤ) → y ≤ℤ z → added y + taken z ≤ added z + taken y
le_parts (pos m) (pos n) h = omega (arith, leb→le m n h.le)
le_parts (pos m) (negsuc n) h = absurd h.le
le_parts (negsuc m) (pos n) h = omega arith
le_parts (negsuc m) (negsuc n) h = omega (arith, leb→le n m h.le)

lt-parts : (y z : ℤ) → y <ℤ z → added y + taken z < added z + taken y
lt-parts (pos m) (pos n) h = omega (arith, ltb→lt m n h.lt)
lt-parts (pos m) (negsuc n) h = absurd h.lt
lt-parts (negsuc m) (pos n) h = omega arith
lt-parts (negsuc m) (negsuc n) h = omega (arith, ltb→lt n m h.lt)

-- -n is nothing less n.
minus : (n : ℕ) → Balance (neg_ℤ (pos n)) 0 n
minus zero = omega arith
minus (suc n) = omega arith

-- Both ends of what an entry stands for, where that is a less t
module _ (v : ℤ) (a t : ℕ) (balance : Balance v a t) where
  low_end : (n : ℤ) → StandsFor n v → 2 ^ 18 * added n + t ≤ a + 2 ^ 18 * taken n
  unfolding StandsFor
  low_end (pos T) stands = omega (arith, le_parts _ v stands.0)
  low_end (negsuc T) stands = omega (arith, lt-parts _ v stands.0, minus (2 ^ 18 * (T + 1)))

  high_end : (n : ℤ) → StandsFor n v → a + 2 ^ 18 * taken n ≤ 2 ^ 18 * (added n + 1) + t
  unfolding StandsFor
  high_end (pos T) stands = omega (arith, lt-parts v _ stands.1)
  high_end (negsuc T) stands = omega (arith, le_parts v _ stands.1, minus (2 ^ 18 * T))

-- If j is back less front, slopes·|j|·unit with its sign is slopes·unit·(back - front), or (front - back) where the function falls.
sign-balance : (slopes unit : ℕ) (rising : Bool) (j : ℤ) (back front : ℕ) → Balance j back front
    → let size = slopes * nat_abs j * unit in
    Balance (cond (same_sign rising j) (pos size) (neg_ℤ (pos size)))
    (slopes * cond rising (back * unit) (front * unit)) (slopes * cond rising (front * unit) (back * unit))
unfolding same_sign
sign-balance slopes unit true (pos n) back front e = let more : back ≡ front + n = omega arith in rw more (omega arith)
sign-balance slopes unit true (negsuc n) back front e =
    let more : front ≡ back + suc n = omega arith in
    rw more (omega (arith, minus (slopes * suc n * unit)))
sign-balance slopes unit false (pos n) back front e =
    let more : back ≡ front + n = omega arith in
    rw more (omega (arith, minus (slopes * n * unit)))
sign-balance slopes unit false (negsuc n) back front e = let more : front ≡ back + suc n = omega arith in rw more (omega arith)

module _ (d : Design) (l : Limits d) (x i : ℕ) (h : i < d.m) where
  abbrev slopes : ℕ
  slopes = hi_at d i (segment_word d i x) + lo_at d i (segment_word d i x)

  abbrev entry : ℤ
  entry = offset_at d i (segment_word d i x) (offset_word d i x)

  abbrev product : ℤ
  product = signed_product slopes (position d i) (row d).rising (odd_number (b_of d i) (offset_word d i x))

  stands : StandsFor entry product
  stands = (entry-means d i (segment_word d i x) (offset_word d i x) (l.table i h).b-low (offset-word-lt d i x)).stands

  -- j is B less 2^b - 1 - B
  odd-balance : let B = offset_word d i x in Balance (odd_number (b_of d i) B) B (2 ^ b_of d i - 1 - B)
  unfolding odd_number
  odd-balance = omega (arith, difference (2 * offset_word d i x + 1) (2 ^ b_of d i), offset-word-lt d i x)

  balance : Balance product (slopes * done d x i) (slopes * left d x i)
  unfolding behind ahead
  balance =
      rw (product_is slopes (position d i) (row d).rising (odd_number (b_of d i) (offset_word d i x)))
      (sign-balance slopes (2 ^ position d i) (row d).rising _ _ _ odd-balance)

  pub offset-low : 2 ^ 18 * added entry + slopes * left d x i ≤ slopes * done d x i + 2 ^ 18 * taken entry
  offset-low = low_end product _ _ balance entry stands

  pub offset-high : slopes * done d x i + 2 ^ 18 * taken entry ≤ 2 ^ 18 * (added entry + 1) + slopes * left d x i
  offset-high = high_end product _ _ balance entry stands
