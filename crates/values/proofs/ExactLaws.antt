-- Laws of the one inequality: it is monotone, it can be rescaled, and the exact value lies between two powers of two.
use mathlib.Core.Path.{◌≡◌, refl, ap, ◌∙◌}
use mathlib.Core.Bool.{Bool, true, false, cond}
use Prim.Native.Nat.{ℕ, zero, suc, ◌+◌, ◌*◌, ◌^◌, ◌≤◌, ◌<◌}
use native.Mathlib.Nat.{pow-suc, mul_comm, mul_assoc, mul-le-mul_left, mul-le-mul_right, mul-lt-mul_of_pos_left, pow-le-pow_left}
use native.Mathlib.Nat.{mul-zero, le_of_mul-le-mul_right, not-le_of_lt, lt_of_not-le, le_of_lt, le_trans, one-le-pow}
use native.Mathlib.Omega.{arith}
use native.Mathlib.Numerals.{add-one}
use lib.Pow.{pow-add, pow_pos}
use Rattle.values.specs.declared.rows.Row.{Row}
use Rattle.values.specs.Rows.{Lawful}
use Rattle.values.specs.Inputs.{InRange}
use Rattle.values.specs.Exact.{num, den, number_side, value_side, AtMost, AtLeast, MoreThan}
use Rattle.values.proofs.Powers.{pow-mul, pow-swap, pow-cancel}

-- "k ≥ 1" as a successor
pub degree : (k : ℕ) → 1 ≤ k → (j : ℕ) × (k ≡ suc j)
degree zero h = absurd (omega arith)
degree (suc j) h = (j, refl)

module _ (row : Row) (w X : ℕ) where
  pub number-mono : {m n : ℕ} → m ≤ n → number_side row w X m ≤ number_side row w X n
  unfolding number_side
  number-mono h = mul-le-mul_right (den row w X) (pow-le-pow_left h row.k)

  pub below : (s : ℕ) {m n : ℕ} → AtMost row w s X m → MoreThan row w s X n → m < n
  below s low high = lt_of_not-le (λ h. not-le_of_lt high (le_trans (number-mono h) low))

  -- t more fraction bits multiply both sides by (2^k)^t
  pub value-scale : (s t : ℕ) → value_side row w (s + t) X ≡ (2 ^ row.k) ^ t * value_side row w s X
  unfolding value_side
  value-scale s t =
      ap (λ (p : ℕ). p * num row w X) (pow-add (2 ^ row.k) s t ∙ mul_comm ((2 ^ row.k) ^ s) ((2 ^ row.k) ^ t))
      ∙ mul_assoc ((2 ^ row.k) ^ t) ((2 ^ row.k) ^ s) (num row w X)

  pub number-scale : (n t : ℕ) → number_side row w X (2 ^ t * n) ≡ (2 ^ row.k) ^ t * number_side row w X n
  unfolding number_side
  number-scale n t =
      ap (λ (p : ℕ). p * den row w X)
      (pow-mul (2 ^ t) n row.k
      ∙ ap (λ (p : ℕ). p * n ^ row.k) (pow-swap 2 t row.k))
      ∙ mul_assoc ((2 ^ row.k) ^ t) (n ^ row.k) (den row w X)

  scale-pos : (t : ℕ) → 0 < (2 ^ row.k) ^ t
  scale-pos t = one-le-pow t (2 ^ row.k) (pow_pos row.k)

  module _ (s t n : ℕ) where
    pub at-most-finer : AtMost row w s X n → AtMost row w (s + t) X (2 ^ t * n)
    at-most-finer h = rw (value-scale s t, number-scale n t) (mul-le-mul_left ((2 ^ row.k) ^ t) h)

    pub at-least-finer : AtLeast row w s X n → AtLeast row w (s + t) X (2 ^ t * n)
    at-least-finer h = rw (value-scale s t, number-scale n t) (mul-le-mul_left ((2 ^ row.k) ^ t) h)

    pub more-than-finer : MoreThan row w s X n → MoreThan row w (s + t) X (2 ^ t * n)
    more-than-finer h = rw (value-scale s t, number-scale n t) (mul-lt-mul_of_pos_left h (scale-pos t))

-- c·X is below 2^k·2^w: p is 2^k, d is 2^w.
wide : (c p d X : ℕ) → 1 ≤ c → 2 * c ≤ p → X < d * 2 → c * X < p * d
wide c p d X c_pos reach high = omega (arith, mul-lt-mul_of_pos_left high c_pos, mul-le-mul_right d reach)

-- In the range of X each of num and den is below 2^k times the other, so the exact value lies in [1/2, 2).
ratio : (rising : Bool) (c p d X : ℕ) → 1 ≤ c → 2 * c ≤ p → 0 < d → d ≤ X → X < d * 2
    → (cond rising (c * X) d < p * cond rising d (c * X)) × (cond rising d (c * X) < p * cond rising (c * X) d)
ratio rising c p d X c_pos reach d-pos low high = go rising
  where
    two : 2 ≤ p
    two = omega arith

    narrow : d < p * (c * X)
    narrow = omega (arith, mul-le-mul_right X two, mul-le-mul_right (p * X) c_pos)

    go : (up : Bool) → (cond up (c * X) d < p * cond up d (c * X)) × (cond up d (c * X) < p * cond up (c * X) d)
    go true = (wide c p d X c_pos reach high, narrow)
    go false = (narrow, wide c p d X c_pos reach high)

module _ (row : Row) (lawful : Lawful row) (w X : ℕ) (range : InRange w X) where
  pub argument-high : row.c * X < 2 ^ row.k * 2 ^ w
  argument-high = wide row.c (2 ^ row.k) (2 ^ w) X lawful.c_pos lawful.domain range.high

  ratios : (num row w X < 2 ^ row.k * den row w X) × (den row w X < 2 ^ row.k * num row w X)
  unfolding num den
  ratios =
      ratio row.rising row.c (2 ^ row.k) (2 ^ w) X lawful.c_pos lawful.domain (pow_pos w) range.low range.high

  pub den_pos : 0 < den row w X
  den_pos = go (den row w X) refl
    where
      go : (d : ℕ) → den row w X ≡ d → 0 < d
      go zero e = absurd (omega (arith, rw (e, mul-zero) at ratios.0))
      go (suc d) e = omega arith

  -- E(X) < 2^(s+1), and 2^s ≤ E(X) with one fraction bit more
  pub value-high : (s : ℕ) → MoreThan row w s X (2 ^ (s + 1))
  unfolding number_side value_side
  value-high s =
      rw (pow-swap 2 (s + 1) row.k, add-one, pow-suc, mul_assoc)
      (mul-lt-mul_of_pos_left ratios.0 (scale-pos row w X s))

  pub value_low : (s : ℕ) → AtMost row w (s + 1) X (2 ^ s)
  unfolding number_side value_side
  value_low s =
      rw (pow-swap 2 s row.k, add-one, pow-suc, mul_assoc)
      (mul-le-mul_left ((2 ^ row.k) ^ s) (le_of_lt ratios.1))

  pub number-cancel : {m n : ℕ} → number_side row w X m ≤ number_side row w X n → m ≤ n
  unfolding number_side den
  number-cancel {m} {n} h =
      let d = degree row.k lawful.k-pos in
      pow-cancel m n d.0 (le_of_mul-le-mul_right (rw d.1 at h) den_pos)
