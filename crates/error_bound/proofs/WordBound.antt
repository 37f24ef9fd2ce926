-- From a sum within the budget of the exact value to the word: it is faithful, and it meets the second bound.
use mathlib.Core.Path.{◌≡◌, ap}
use Prim.Native.Nat.{ℕ, ◌+◌, ◌-◌, ◌*◌, ◌/◌, ◌^◌, ◌≤◌, ◌<◌}
use native.Mathlib.Nat.{
  le_trans,
  le_of_lt,
  lt_of_not-le,
  mul-le-mul_left,
  le-div_iff_mul-le,
  mul-div-le,
  lt-mul-div-succ,
  lt_of_mul-lt-mul_left,
}
use native.Mathlib.Decide.{dec_le}
use native.Mathlib.Omega.{arith}
use lib.Pow.{pow-add, pow_pos, pow_mono}
use Rattle.values.specs.declared.rows.Row.{Row}
use Rattle.values.specs.Rows.{Lawful}
use Rattle.values.specs.Inputs.{InRange}
use Rattle.values.specs.Exact.{number_side, value_side, AtMost, LessThan, AtLeast, MoreThan}
use Rattle.values.specs.Faithful.{Faithful}
use Rattle.values.proofs.ExactLaws.{number-cancel, value-scale, number-scale, value_low, value-high}
use Rattle.error_bound.proofs.Path.{parts}

-- Fewer fraction bits: both sides lose the factor (2^k)^t.
module _ (row : Row) (w X s t n : ℕ) where
  less-than-coarser : LessThan row w (s + t) X (2 ^ t * n) → LessThan row w s X n
  less-than-coarser h = lt_of_mul-lt-mul_left ((2 ^ row.k) ^ t) (rw (value-scale row w X s t, number-scale row w X n t) at h)

  more-than-coarser : MoreThan row w (s + t) X (2 ^ t * n) → MoreThan row w s X n
  more-than-coarser h = lt_of_mul-lt-mul_left ((2 ^ row.k) ^ t) (rw (value-scale row w X s t, number-scale row w X n t) at h)

-- What is not above the exact value is at most it, and the other way round.
module _ (row : Row) (lawful : Lawful row) (w s X : ℕ) (range : InRange w X) where
  at-most-or : (n : ℕ) → (MoreThan row w s X n → ⊥) → AtMost row w s X n
  at-most-or n no_more = elim (dec_le (number_side row w X n) (value_side row w s X)) [ yes p ↦ p | no h ↦ absurd (no_more (lt_of_not-le h)) ]

  more-than-or : (n : ℕ) → (AtMost row w s X n → ⊥) → MoreThan row w s X n
  more-than-or n not-at-most = lt_of_not-le not-at-most

  -- a number that is at least the exact value, and one more
  one_more : (n : ℕ) → AtLeast row w s X n → MoreThan row w s X (n + 1)
  one_more n h = lt_of_not-le (λ k. let c = number-cancel row lawful w X range (le_trans k h) in omega arith)

  less-than-or : (n : ℕ) → (MoreThan row w s X (n + 1) → ⊥) → LessThan row w s X n
  less-than-or n no_more = lt_of_not-le (λ h. no_more (one_more n h))

-- Y, in table units, lies within `budget` of the exact value and half an output unit, in units of 2^-18 table units; `half` is 2^(g+17).
pub record Near (row : Row) (w P X Y half budget : ℕ) : Type 0 where
  pub low : (n : ℕ) → MoreThan row w (P + 18) X n → 2 ^ 18 * Y < n + half + budget
  pub high : (n : ℕ) → AtMost row w (P + 18) X n → n + half < 2 ^ 18 * Y + budget

-- What demand 3 asks of a word y for the exact value at X
pub record GoodWord (row : Row) (w q g X y budget : ℕ) : Type 0 where
  pub faithful : Faithful row w q X y
  pub above_zero : budget + 2 ^ (g + 17) < 2 ^ (18 + g) * y
  pub low : AtMost row w (q + g + 18) X (2 ^ (18 + g) * y - (budget + 2 ^ (g + 17)))
  pub high : AtLeast row w (q + g + 18) X (2 ^ (18 + g) * y + (budget + 2 ^ (g + 17)))

-- In plain numbers: unit is 2^g, `half` 2^17·2^g. A number above the exact value keeps above the word's lower bounds, and one that is
-- at most the exact value below its upper bounds.
module _ (unit Y y half budget : ℕ) (low : unit * y ≤ Y) (high : Y < unit * (y + 1)) (half_is : half ≡ unit * 2 ^ 17)
    (within : budget < half) where
  module _ (n : ℕ) where
    not-above-bound : n + (budget + half) ≡ 2 ^ 18 * unit * y → 2 ^ 18 * Y < n + half + budget → ⊥
    not-above-bound e h = omega arith

    not-above-word : n + 2 ^ 18 * unit ≡ 2 ^ 18 * unit * y → 2 ^ 18 * Y < n + 1 + half + budget → ⊥
    not-above-word e h = omega arith

    not-below-bound : n ≡ 2 ^ 18 * unit * y + (budget + half) → n + half < 2 ^ 18 * Y + budget → ⊥
    not-below-bound e h = omega arith

    not-below-word : n ≡ 2 ^ 18 * unit * (y + 1) → n + half < 2 ^ 18 * Y + budget → ⊥
    not-below-word e h = omega arith

module _ (row : Row) (lawful : Lawful row) (w q g X Y budget : ℕ) (range : InRange w X)
    (near : Near row w (q + g) X Y (2 ^ (g + 17)) budget) (within : budget < 2 ^ (g + 17)) where
  -- The exact value is at least 2^(P-1) and below 2^(P+1), and the sum is near it: Y is in range, and the word is not 0.
  sum-high-enough : 2 ^ (q + g + 17) < 2 ^ 18 * Y
  sum-high-enough =
      let e : q + g + 17 + 1 ≡ q + g + 18 = omega arith in
      let low = near.high (2 ^ (q + g + 17)) (rw e at (value_low row lawful w X range (q + g + 17))) in
      omega arith

  pub sum-in-range : Y < 2 ^ (q + g + 2)
  sum-in-range =
      omega (
        arith,
        near.low (2 ^ (q + g + 18 + 1)) (value-high row lawful w X range (q + g + 18)),
        pow_mono {i = g} {j = q + g} (omega arith),
        pow-add 2 (q + g + 18) 1,
        pow-add 2 (q + g) 18,
        pow-add 2 (q + g) 2,
        pow-add 2 g 17,
      )

  module _ (q-pos : 1 ≤ q) where
    abbrev y : ℕ
    y = Y / 2 ^ g

    unit-fits : 2 ^ g ≤ Y
    unit-fits =
        omega (
          arith,
          sum-high-enough,
          pow-add 2 (q + g) 17,
          pow_mono {i = g + 1} {j = q + g} (omega arith),
          pow-add 2 g 1,
        )

    positive : 1 ≤ y
    positive = (le-div_iff_mul-le (pow_pos g)).1 (omega (arith, unit-fits))

    word_low : 2 ^ g * y ≤ Y
    word_low = mul-div-le Y (2 ^ g)

    word-high : Y < 2 ^ g * (y + 1)
    word-high = lt-mul-div-succ Y (pow_pos g)

    half_is : 2 ^ (g + 17) ≡ 2 ^ g * 2 ^ 17
    half_is = pow-add 2 g 17

    scale : 2 ^ (18 + g) ≡ 2 ^ 18 * 2 ^ g
    scale = pow-add 2 18 g

    -- R < 2^(g+18) ≤ Y'
    above : budget + 2 ^ (g + 17) < 2 ^ (18 + g) * y
    above = omega (arith, scale, half_is, mul-le-mul_left (2 ^ (18 + g)) positive)

    scaled : (n : ℕ) → 2 ^ (18 + g) * n ≡ 2 ^ 18 * 2 ^ g * n
    scaled n = ap (λ (m : ℕ). m * n) scale

    -- one output unit less
    unit-less : 2 ^ (18 + g) * (y - 1) + 2 ^ 18 * 2 ^ g ≡ 2 ^ 18 * 2 ^ g * y
    unit-less = omega (arith, scaled (y - 1), parts y (y - 1) 1 (2 ^ 18 * 2 ^ g) (omega (arith, positive)))

    fine : q + g + 18 ≡ q + (18 + g)
    fine = omega arith

    word-faithful : Faithful row w q X y
    word-faithful =
        record {
          positive = positive;
          low = less-than-coarser row w X q (18 + g) (y - 1)
              (rw (← fine)
              (less-than-or row lawful w (q + g + 18) X range _
              (λ h. not-above-word (2 ^ g) Y y (2 ^ (g + 17)) budget word_low word-high half_is within _ unit-less (near.low _ h))));
          high = more-than-coarser row w X q (18 + g) (y + 1)
              (rw (← fine)
              (more-than-or row lawful w (q + g + 18) X range _
              (λ h. not-below-word (2 ^ g) Y y (2 ^ (g + 17)) budget word_low word-high half_is within
              _ (scaled (y + 1)) (near.high _ h))));
        }

    pub good-word : GoodWord row w q g X y budget
    good-word =
        record {
          faithful = word-faithful;
          above_zero = above;
          low = at-most-or row lawful w (q + g + 18) X range _
              (λ h. not-above-bound (2 ^ g) Y y (2 ^ (g + 17)) budget word_low word-high half_is within
              _ (omega (arith, above, scaled y)) (near.low _ h));
          high = le_of_lt (more-than-or row lawful w (q + g + 18) X range _
              (λ h. not-below-bound (2 ^ g) Y y (2 ^ (g + 17)) budget word_low word-high half_is within
              _ (omega (arith, scaled y)) (near.high _ h)));
        }
