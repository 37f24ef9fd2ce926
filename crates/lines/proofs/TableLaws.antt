-- How many lines a set has, and in which table the offset at a place lies.
use mathlib.Core.Path.{◌≡◌, refl, sym, ◌∙◌}
use mathlib.Core.Bool.{cond}
use Prim.Native.Nat.{ℕ, zero, suc, ◌+◌, ◌-◌, ◌≤◌, ◌<◌}
use native.Mathlib.Nat.{le_of_lt, le_trans}
use native.Mathlib.Decide.{dec_lt}
use native.Mathlib.Numerals.{add-one}
use native.Mathlib.Omega.{arith}
use lib.Dec.{leb}
use borrow.Author.Tests.{le-leb, lt-leb}
use Rattle.general.specs.Below.{sum_below}
use Rattle.general.proofs.Sums.{sum_mono, sum-next}
use Rattle.design.specs.declared.Design.{Design}
use Rattle.design.specs.Stored.{offset_count, table_start, offset_total}
use Rattle.design.specs.Legal.{Legal}
use Rattle.design.proofs.LegalLaws.{limits}
use Rattle.design.proofs.StoredLaws.{offset-total-small, initial-count-small}
use Rattle.lines.specs.declared.Slot.{Slot}
use Rattle.lines.specs.Slots.{line_count, table_of, offset_slot, most_lines}

pub lines-small : (d : Design) → Legal d → line_count d ≤ most_lines
unfolding line_count
lines-small d legal = omega (arith, initial-count-small d (limits d legal), offset-total-small d (limits d legal))

module _ (d : Design) where
  -- Tables begin one after another,
  pub starts-rise : (i n : ℕ) → i ≤ n → table_start d i ≤ table_start d n
  unfolding table_start
  starts-rise = sum_mono (offset_count d)

  -- each where the one before it ends.
  start-next : (i : ℕ) → table_start d (i + 1) ≡ table_start d i + offset_count d i
  unfolding table_start
  start-next i = sum-next i (offset_count d)

  module _ (place : ℕ) where
    -- 1 for a table that ends at or before the place
    abbrev ended : ℕ → ℕ
    ended i = cond (leb (table_start d (suc i)) place) 1 0

    -- The tables before one that begins there or earlier have ended: all of them count,
    all-ended : (i : ℕ) → table_start d i ≤ place → sum_below i ended ≡ i
    unfolding sum_below
    all-ended zero h = refl
    all-ended (suc i) h =
        rw (all-ended i (le_trans (starts-rise i (suc i) (omega arith)) h), le-leb (table_start d (suc i)) place h) (omega arith)

    -- and from the table on that ends after the place, none does.
    none_after : (i n : ℕ) → i ≤ n → table_start d i ≤ place → place < table_start d (suc i) → sum_below n ended ≡ i
    unfolding sum_below
    none_after i zero h from to = omega arith
    none_after i (suc n) h from to =
        elim (dec_lt i (suc n)) [
          | yes below ↦
              rw (
                none_after i n (omega arith) from to,
                lt-leb (table_start d (suc n)) place (omega (arith, starts-rise (suc i) (suc n) below)),
              )
              (omega arith)
          | no equal ↦
              let e : i ≡ suc n = omega arith in
              all-ended (suc n) (rw e at from) ∙ sym e
        ]

-- So the table that the place lies in is the one that begins there or earlier and ends after it.
pub table-of : (d : Design) (i place : ℕ) → i < d.m → table_start d i ≤ place → place < table_start d (suc i) → table_of d place ≡ i
unfolding table_of
table-of d i place h from to = none_after d place i d.m (le_of_lt h) from to

-- A search for the table of a place has come to a table that begins so many offsets before the place.
pub record Search (d : Design) (place table index : ℕ) : Type 0 where
  pub begun : table_start d table + index ≡ place

module _ (d : Design) where
  -- It starts at table 0;
  pub search-start : (place : ℕ) → Search d place 0 place
  unfolding table_start sum_below
  search-start place = record { begun = omega arith }

  module _ {place table index count : ℕ} (s : Search d place table index) (count-is : count ≡ offset_count d table) where
    -- where the table ends at or before the place, the search goes on at the next;
    pub search-step : count ≤ index → Search d place (table + 1) (index - count)
    search-step past = record { begun = omega (arith, s.begun, count-is, start-next d table) }

    -- where it ends after the place, the offset lies in it.
    pub search-end : table < d.m → index < count → Slot.Offset table index place ≡ offset_slot d place
    unfolding offset_slot
    search-end within before =
        let ends : place < table_start d (table + 1) = omega (arith, s.begun, count-is, start-next d table) in
        let from : place - table_start d table ≡ index = omega (arith, s.begun) in
        rw (table-of d table place within (omega (arith, s.begun)) (rw add-one at ends), from)

  -- A place among the offsets lies before the end of the last table.
  pub search-within : {place table index : ℕ} → Search d place table index → place < offset_total d → d.m ≤ table → ⊥
  unfolding offset_total
  search-within {place} {table} s within end = omega (arith, s.begun, starts-rise d d.m table end)
