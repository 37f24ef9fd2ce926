-- The sum Y: what is known once the offsets of i tables from 1 on are added (how it starts, goes on and ends), that they make Y
-- with table 0, and what is known of a Y in range.
use mathlib.Core.Path.{◌≡◌, sym, ap, ◌∙◌}
use mathlib.Core.Bool.{false, true≢false}
use mathlib.Core.List.{List}
use Prim.Native.Nat.{ℕ, suc, ◌+◌, ◌-◌, ◌*◌, ◌^◌, ◌≤◌, ◌<◌}
use native.Mathlib.Omega.{arith}
use borrow.Author.Tests.{leb-false}
use lib.Dec.{T, leb, ltb}
use lib.IntN.{ℤ, pos, negsuc, nat_abs, ◌+ℤ◌, +ℤ_assoc, +ℤ_comm, +ℤ_idr}
use lib.Signed.{mag, non_neg}
use Rattle.general.specs.Below.{signed_sum}
use Rattle.general.proofs.Tests.{neither}
use Rattle.general.proofs.Sums.{signed-next, signed-first}
use Rattle.values.specs.declared.TableUnits.{TableUnits}
use Rattle.values.specs.Room.{finest_unit, entry_bound}
use Rattle.design.specs.declared.Design.{Design}
use Rattle.design.specs.Cut.{sum_limit}
use Rattle.design.specs.Legal.{Legal}
use Rattle.design.proofs.LegalLaws.{limits, sum-limit-small}
use Rattle.tables.specs.Inputs.{sum_above}
use Rattle.tables.specs.Sum.{offset_for, sum_from, sum_outside}

-- A sum with the offsets of i tables from 1 on, each of 32 bits
pub record Summed (d : Design) (before : ℤ) (offsets : List ℤ) (x i : ℕ) (sum : ℤ) : Type 0 where
  pub sum_is : sum ≡ before +ℤ signed_sum i (λ j. offset_for d offsets x (j + 1))
  pub small : mag sum ≤ mag before + i * 2 ^ 32

-- A signed number as a count of table units
abbrev pub units : ℤ → TableUnits
units z = record { 0 = z }

-- Before any table, with one more, and with all of them
module _ (d : Design) (before : ℤ) (offsets : List ℤ) (x : ℕ) where
  pub summed-none : Summed d before offsets x 0 before
  unfolding signed_sum
  summed-none = record { sum_is = sym (+ℤ_idr before); small = omega arith }

  pub summed-more : {sum next : ℤ} {i : ℕ} → Summed d before offsets x i sum → next ≡ sum +ℤ offset_for d offsets x (i + 1)
      → mag next ≤ mag sum + 2 ^ 32 → Summed d before offsets x (i + 1) next
  summed-more {sum} {next} {i} s e few =
      let part : ℕ → ℤ = λ j. offset_for d offsets x (j + 1) in
      record {
        sum_is =
            e
            ∙ ap (λ (z : ℤ). z +ℤ part i) s.sum_is
            ∙ +ℤ_assoc before (signed_sum i part) (part i)
            ∙ ap (λ (z : ℤ). before +ℤ z) (sym (signed-next i part));
        small = omega (arith, s.small);
      }

  pub summed-all : {sum : ℤ} {i : ℕ} → mag before ≤ 2 ^ 34 → Summed d before offsets x i sum → d.m ≡ i + 1 → i ≤ 3
      → (sum ≡ sum_above d before offsets x) × (mag sum ≤ 2 ^ 40)
  unfolding sum_above
  summed-all {sum} {i} low s e few =
      let all : i ≡ d.m - 1 = omega arith in
      (rw all at s.sum_is, omega (arith, s.small))

-- With table 0 it is Y, whether that comes first or last.
module _ (d : Design) (entry : ℕ) (offsets : List ℤ) (x : ℕ) (some : 1 ≤ d.m) where
  abbrev first : ℤ
  first = offset_for d offsets x 0

  abbrev above : ℤ
  above = signed_sum (d.m - 1) (λ i. offset_for d offsets x (i + 1))

  all-tables : first +ℤ above ≡ signed_sum d.m (offset_for d offsets x)
  all-tables =
      let e : d.m ≡ suc (d.m - 1) = omega arith in
      sym (signed-first (d.m - 1) (offset_for d offsets x)) ∙ ap (λ (n : ℕ). signed_sum n (offset_for d offsets x)) (sym e)

  pub first-first : sum_above d (pos entry +ℤ first) offsets x ≡ sum_from d entry offsets x
  unfolding sum_above
  first-first = +ℤ_assoc (pos entry) first above ∙ ap (λ (z : ℤ). pos entry +ℤ z) all-tables

  pub first-last : sum_above d (pos entry) offsets x +ℤ first ≡ sum_from d entry offsets x
  unfolding sum_above
  first-last = +ℤ_assoc (pos entry) above first ∙ ap (λ (z : ℤ). pos entry +ℤ z) (+ℤ_comm above first ∙ all-tables)

-- A sum in range is a number of fewer than P + 3 bits.
pub in-range : (d : Design) (Y : ℤ) → sum_outside d Y ≡ false → T (non_neg Y) × (nat_abs Y < sum_limit d)
unfolding sum_outside
in-range d (pos n) e = (tt, leb-false _ _ (neither (ltb n 0) (leb (sum_limit d) n) e).1)
in-range d (negsuc n) e = absurd (true≢false e)

-- Its word is a division of a number that the machine holds.
pub small-in-range : (d : Design) → Legal d → (Y : ℤ) → sum_outside d Y ≡ false
    → (d.g ≤ finest_unit) × T (non_neg Y) × (nat_abs Y < entry_bound)
small-in-range d legal Y e =
    let inside = in-range d Y e in
    (omega (arith, (limits d legal).widths), inside.0, omega (arith, inside.1, sum-limit-small d (limits d legal)))
