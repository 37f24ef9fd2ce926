-- How large the entries that the fill writes get, and the numbers that they are made of.
use mathlib.Core.Path.{◌≡◌}
use Prim.Native.Nat.{ℕ, suc, ◌+◌, ◌-◌, ◌*◌, ◌/◌, ◌^◌, ◌≤◌, ◌<◌}
use native.Mathlib.Nat.{le_trans, le_of_lt, lt_of_lt_of_le, mul-le-mul_left, mul-le-mul_right, mul_assoc, pow-suc}
use native.Mathlib.Omega.{arith}
use lib.IntN.{pos, nat_abs}
use lib.Pow.{pow-add, pow_mono, shr_mono}
use Rattle.general.proofs.SignedLaws.{difference-small}
use Rattle.values.specs.Room.{finest_unit, floor_bound, entry_bound}
use Rattle.values.specs.declared.rows.Row.{Row}
use Rattle.values.specs.Inputs.{InRange, FloorInput, SlopeInput}
use Rattle.values.specs.Slopes.{hi, slope_sum}
use Rattle.values.proofs.FloorLaws.{floor-high}
use Rattle.values.proofs.Bounds.{start-input, end-input, slopes-scaled}
use Rattle.design.specs.declared.Design.{Design}
use Rattle.design.specs.Limits.{least_initial_bits, most_tables}
use Rattle.design.specs.Cut.{a_of, b_of, row, fraction_bits, sum_limit, position}
use Rattle.design.specs.Stored.{initial_count}
use Rattle.design.proofs.LegalLaws.{Limits, lawful, slopewise, bits-end, room, sum-limit-small}
use Rattle.entries.specs.Inputs.{reach_bound, offset_bound, OffsetInput}
use Rattle.entries.specs.Entries.{value_at, end_values, initial_at, hi_at, lo_at, odd_number, magnitude}

-- What the calls of the values ask, at a legal design
module _ (d : Design) (l : Limits d) where
  pub floor-input : (X : ℕ) → InRange d.w X → FloorInput (row d) d.w (fraction_bits d) X
  floor-input X range =
      record { lawful = lawful d l; room = room d l; range = range }

  -- of the intervals of the initial entries
  pub interval-input : SlopeInput (row d) d.w (fraction_bits d) d.alpha
  interval-input = record { lawful = lawful d l; room = room d l; a_small = le_of_lt l.alpha-below }

-- An initial entry, by the values at both ends of its interval, which lie below bound, m and the half unit
pub half-sum-below : (bound first last m unit : ℕ) → first < bound → last < bound → m ≤ most_tables → unit * 2 ≤ bound → 4 ≤ bound
    → (first + last + 1 + m) / 2 + unit < bound * 2
half-sum-below bound first last m unit first-lt last-lt few half wide = omega arith

module _ (d : Design) (l : Limits d) where
  abbrev P : ℕ
  P = fraction_bits d

  half-unit : 2 ^ (d.g - 1) * 2 ≤ 2 ^ (P + 1)
  half-unit =
      let e : suc (d.g - 1) ≡ d.g = omega (arith, l.widths.g-low) in
      omega (arith, rw e at (pow-suc 2 (d.g - 1)), pow_mono {i = d.g} {j = P + 1} (omega arith))

  pub unit-small : 2 ^ (d.g - 1) * 2 ≤ floor_bound
  unit-small = le_trans half-unit (pow_mono {j = finest_unit + 1} (omega (arith, l.widths.room.s-small)))

  -- Every initial entry is a sum in range, "0 ≤ Y < 2^(P+2)", by itself,
  pub initial-in-range : (A : ℕ) → A < initial_count d → initial_at d A < sum_limit d
  unfolding initial_at end_values value_at initial_count
  initial-in-range A A-lt =
      let fit = interval-input d l in
      let one : P + 2 ≡ suc (P + 1) = omega arith in
      rw (one, pow-suc 2 (P + 1))
      (half-sum-below (2 ^ (P + 1)) _ _ d.m _ (floor-high _ (lawful d l) _ _ _ (start-input _ _ _ _ A fit A-lt).range)
      (floor-high _ (lawful d l) _ _ _ (end-input _ _ _ _ A fit A-lt).range) l.m-high half-unit
      (pow_mono {i = 2} (omega (arith, l.widths.g-low))))

  -- and so it is small.
  pub initial-small : (A : ℕ) → A < initial_count d → initial_at d A < entry_bound
  initial-small A A-lt = lt_of_lt_of_le (initial-in-range A A-lt) (sum-limit-small d l)

-- |j| is at most 2^b, so the bound on slopes·2^(b+p) is one on the product, and T is small.
pub odd-small : (b B : ℕ) → B < 2 ^ b → nat_abs (odd_number b B) ≤ 2 ^ b
unfolding odd_number
odd-small b B B-lt = difference-small (2 * B + 1) (2 ^ b) (omega arith)

module _ (slopes b p size : ℕ) (small : slopes * 2 ^ (b + p) ≤ reach_bound) (size-le : size ≤ 2 ^ b) where
  pub product_small : slopes * size * 2 ^ p ≤ reach_bound
  product_small = le_trans (mul-le-mul_right (2 ^ p) (mul-le-mul_left slopes size-le)) (rw (mul_assoc, ← pow-add 2 b p) small)

  pub quotient-small : magnitude slopes p (pos size) ≤ offset_bound
  unfolding magnitude
  quotient-small = omega (arith, shr_mono 18 product_small)

pub magnitude-small : (slopes b p B : ℕ) → slopes * 2 ^ (b + p) ≤ reach_bound → B < 2 ^ b
    → magnitude slopes p (odd_number b B) ≤ offset_bound
unfolding magnitude
magnitude-small slopes b p B small B-lt = quotient-small slopes b p _ small (odd-small b B B-lt)

-- Hi + Lo of a segment, with 2^(b+p): offsets of as many bits as a design leaves below alpha can be asked for.
module _ (row : Row) (w P a A b p : ℕ) (fit : SlopeInput row w P a) (A-lt : A < 2 ^ a) (below : b + p + least_initial_bits ≤ w) where
  pub sum-reach : slope_sum row w P a A * 2 ^ (b + p) ≤ reach_bound
  unfolding slope_sum
  sum-reach =
      let wide = pow_mono {i = b + p + least_initial_bits} {j = w} below in
      omega (
        arith,
        mul-le-mul_left (slope_sum row w P a A) (rw (pow-add 2 (b + p) least_initial_bits) at wide),
        slopes-scaled row w P a A fit A-lt,
      )

  pub sum-input : 1 ≤ b → OffsetInput (slope_sum row w P a A) b p
  unfolding slope_sum hi
  sum-input b-low = record { b-low = b-low; slopes-low = omega arith; bits = omega (arith, below, fit.room.w-small); small = sum-reach }

-- So they can in table i of a design.
module _ (d : Design) (l : Limits d) (i A : ℕ) (h : i < d.m) (A-lt : A < 2 ^ a_of d i) where
  bits_below : b_of d i + position d i + least_initial_bits ≤ d.w
  bits_below = omega (arith, bits-end d l i h, l.alpha-low, l.alpha-below)

  pub slopes-reach : (hi_at d i A + lo_at d i A) * 2 ^ (b_of d i + position d i) ≤ reach_bound
  unfolding hi_at lo_at slope_sum
  slopes-reach = sum-reach (row d) d.w (fraction_bits d) (a_of d i) A (b_of d i) (position d i) (slopewise d l i h) A-lt bits_below

  pub offset-input : OffsetInput (hi_at d i A + lo_at d i A) (b_of d i) (position d i)
  unfolding hi_at lo_at slope_sum
  offset-input =
      sum-input (row d) d.w (fraction_bits d) (a_of d i) A (b_of d i) (position d i) (slopewise d l i h) A-lt bits_below (l.table i h).b-low
