-- What the calls ask and how large sizes get.
use mathlib.Core.Path.{◌≡◌, sym, ap, ◌∙◌}
use Prim.Native.Nat.{ℕ, ◌+◌, ◌-◌, ◌*◌, ◌^◌, ◌≤◌, ◌<◌}
use native.Mathlib.Nat.{add-le-add, le_refl, mul-le-mul}
use native.Mathlib.Decide.{dec_lt}
use native.Mathlib.Omega.{arith}
use lib.Pow.{pow_mono, pow_pos}
use Rattle.general.specs.Digits.{Digits}
use Rattle.general.proofs.Sums.{sum-bounded, sum-congruence, largest-reached}
use Rattle.values.specs.declared.rows.Row.{Row}
use Rattle.values.specs.Room.{finest_unit}
use Rattle.values.specs.Inputs.{SlopeInput}
use Rattle.values.specs.Slopes.{slope_sum, largest_sum}
use Rattle.design.specs.declared.Pair.{Pair}
use Rattle.design.specs.declared.Design.{Design}
use Rattle.design.specs.Limits.{least_initial_bits, most_initial_bits, most_tables, most_table_bits, most_initial, most_in_table}
use Rattle.design.specs.Cut.{pair_at, a_of, b_of, row, fraction_bits, position}
use Rattle.design.specs.Stored.{initial_count}
use Rattle.design.specs.Same.{Same}
use Rattle.design.proofs.LegalLaws.{Limits, slopewise, bits-end}
use Rattle.design.proofs.StoredLaws.{count-is}
use Rattle.design.proofs.SameLaws.{pair_same, position-same}
use Rattle.entries.specs.Inputs.{OffsetInput, offset_bound}
use Rattle.entries.proofs.EntryBounds.{quotient-small, sum-input}
use Rattle.sizing.specs.Width.{most_bits}
use Rattle.sizing.specs.Size.{initial_size, table_size, size}
use Rattle.sizing.specs.Widest.{widest_offset, bits_for}
use Rattle.sizing.proofs.BitsLaws.{bits-high}
use Rattle.sizing.proofs.WidthLaws.{offset-bits-is}

-- The widest offset can be asked for, as each can of its segment.
pub largest-input : (row : Row) (w P a b p : ℕ) → SlopeInput row w P a → 1 ≤ b → b + p + least_initial_bits ≤ w
    → OffsetInput (largest_sum row w P a) b p
unfolding largest_sum
largest-input row w P a b p fit b-low below =
    let steepest = largest-reached (2 ^ a) (slope_sum row w P a) (pow_pos a) in
    rw steepest.2 at (sum-input row w P a steepest.0 b p fit steepest.1 below b-low)

-- T is small, and so are its digits.
pub widest-small : (slopes b p : ℕ) → OffsetInput slopes b p → widest_offset slopes b p ≤ offset_bound
unfolding widest_offset
widest-small slopes b p fit = quotient-small slopes b p (2 ^ b - 1) fit.small (omega (arith, pow_pos b))

pub digits-few : (T count : ℕ) → T ≤ offset_bound → Digits T count → count < most_bits
digits-few T count small digits =
    elim (dec_lt count most_bits) [
      | yes few ↦ few
      | no many ↦ absurd (omega (arith, digits.fewest, pow_mono {i = most_bits} {j = count} (omega arith)))
    ]

-- No table is larger than so many entries of the most bits.
abbrev pub table_bound : ℕ
table_bound = most_in_table * most_bits

abbrev pub initial_bound : ℕ
initial_bound = most_initial * (finest_unit + 2)

pub size-by-small : (a b T : ℕ) → a + b ≤ most_table_bits → 2 ^ (a + b) * bits_for T ≤ table_bound
size-by-small a b T few = mul-le-mul (pow_mono {j = most_table_bits} few) (bits-high T)

pub initial-by-small : (alpha P : ℕ) → alpha ≤ most_initial_bits → P ≤ finest_unit → 2 ^ alpha * (P + 2) ≤ initial_bound
initial-by-small alpha P few fine = mul-le-mul (pow_mono {j = most_initial_bits} few) (add-le-add fine (le_refl 2))

-- A table's size by its numbers
module _ (d : Design) (i : ℕ) where
  pub table-size-is : table_size d i
      ≡ 2 ^ (a_of d i + b_of d i)
      * bits_for (widest_offset (largest_sum (row d) d.w (fraction_bits d) (a_of d i)) (b_of d i) (position d i))
  unfolding table_size
  table-size-is = rw (count-is d i, offset-bits-is d i)

  module _ (l : Limits d) (h : i < d.m) where
    pub widest-input : OffsetInput (largest_sum (row d) d.w (fraction_bits d) (a_of d i)) (b_of d i) (position d i)
    widest-input =
        largest-input (row d) d.w (fraction_bits d) (a_of d i) (b_of d i) (position d i) (slopewise d l i h) (l.table i h).b-low
        (omega (arith, bits-end d l i h, l.alpha-low, l.alpha-below))

    pub table-size-small : table_size d i ≤ table_bound
    table-size-small = rw table-size-is (size-by-small (a_of d i) (b_of d i) _ (l.table i h).sum-high)

-- and it is the same for designs that agree in these.
pub table-size-same : (d e : Design) (i : ℕ) → d.kind ≡ e.kind → d.w ≡ e.w → d.q ≡ e.q → d.g ≡ e.g → pair_at d i ≡ pair_at e i
    → position d i ≡ position e i → table_size d i ≡ table_size e i
table-size-same d e i kind w q g pair place =
    table-size-is d i
    ∙ ap (λ (pair : Pair). 2 ^ (pair.a + pair.b)
    * bits_for (widest_offset (largest_sum (row d) d.w (fraction_bits d) pair.a) pair.b (position d i))) pair
    ∙ rw (place, kind, w, q, g) (sym (table-size-is e i))

-- The size of a design
pub size_same : (d e : Design) → Same d e → size d ≡ size e
unfolding size initial_size initial_count
size_same d e s =
    let tables = sum-congruence d.m (table_size d) (table_size e)
    (λ i h. table-size-same d e i s.kind s.w s.q s.g (pair_same d e s i) (position-same d e s i)) in
    rw (tables, s.alpha, s.q, s.g, s.m)

pub size_small : (d : Design) → Limits d → size d ≤ initial_bound + most_tables * table_bound
unfolding size initial_size initial_count
size_small d l =
    omega (
      arith,
      initial-by-small _ _ l.alpha-high l.widths.room.s-small,
      sum-bounded d.m table_bound (table_size d) (λ i h. table-size-small d i l h),
      l.m-high,
    )
