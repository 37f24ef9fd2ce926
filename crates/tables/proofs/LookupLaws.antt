-- Lookups: how large their numbers are, how each table's follow from those of the table before, and that they lead to the place of x's
-- offset.
use mathlib.Core.Path.{◌≡◌, sym, ap, ◌∙◌}
use Prim.Native.Nat.{ℕ, ◌+◌, ◌-◌, ◌*◌, ◌/◌, ◌%◌, ◌^◌, ◌≤◌, ◌<◌}
use native.Mathlib.Nat.{lt_of_lt_of_le, mod-eq_of_lt, one-mul}
use native.Mathlib.Decide.{dec_lt}
use native.Mathlib.Omega.{arith}
use lib.ListN.{take, get_or-eq_default, length-take}
use lib.Pow.{pow-lt, pow_mono, shr-shr, split}
use Rattle.general.proofs.Sums.{sum-bounded, sum-next}
use Rattle.values.specs.Room.{word_bound}
use Rattle.values.proofs.Bounds.{words-few}
use Rattle.design.specs.declared.Pair.{Pair}
use Rattle.design.specs.declared.Design.{Design}
use Rattle.design.specs.Limits.{most_tables, most_offset_bits, most_table_bits, most_in_table}
use Rattle.design.specs.Cut.{tables, pair_at, a_of, b_of, position, initial_word, segment_word, offset_word, no_pair}
use Rattle.design.specs.Stored.{offset_count, table_start, offset_total, offset_place, stored_place, stored_count, stored_index}
use Rattle.design.proofs.LegalLaws.{Limits, bits-end}
use Rattle.design.proofs.StoredLaws.{place-in-total, count-is}
use Rattle.design.proofs.CutLaws.{segment-word-lt, offset-word-lt}
use Rattle.tables.specs.declared.lookups.Lookup.{Lookup}
use Rattle.tables.specs.declared.lookups.Lookups.{Lookups}
use Rattle.tables.specs.Lookup.{lookup_of, lookups_of, place_at}
use Rattle.tables.specs.Inputs.{SameInterval, Small}

-- A power of two that 32 bits hold, as a shift makes it
pub shl_one : (n : ℕ) → n < 32 → 1 * 2 ^ n % 2 ^ 32 ≡ 2 ^ n
shl_one n h = ap (λ (k : ℕ). k % 2 ^ 32) (one-mul _) ∙ mod-eq_of_lt (pow-lt h)

-- A pair beyond m is one of no bits.
pair-beyond : (d : Design) (i : ℕ) → d.m ≤ i → pair_at d i ≡ no_pair
unfolding pair_at tables
pair-beyond d i h = get_or-eq_default (take d.m d.pairs) _ {n = i} (omega (arith, length-take d.m d.pairs))

-- How many bits a table has, if there is one or not
pub record Few (d : Design) (i : ℕ) : Type 0 where
  pub b-small : b_of d i ≤ most_offset_bits
  pub bits_small : a_of d i + b_of d i ≤ most_table_bits
  pub bits-within : a_of d i + b_of d i ≤ d.w

-- The lookup of a table of no bits
abbrev no-bits : ℕ → ℕ → ℕ → Lookup
no-bits shift at start = record { shift = shift; b = 0; position = at; start = start }

-- The lookup of a table by its pair, and where there is none
module _ (d : Design) (i at start : ℕ) (at-is : at ≡ position d i) (start_is : start ≡ table_start d i) where
  pub lookup-here : (pair : Pair) → pair ≡ pair_at d i
      → ◌≡◌ {A = Lookup} (record { shift = d.w - (pair.a + pair.b); b = pair.b; position = at; start = start }) (lookup_of d i)
  unfolding lookup_of
  lookup-here pair pair_is = rw (pair_is, at-is, start_is)

  pub lookup-none : d.m ≤ i → no-bits d.w at start ≡ lookup_of d i
  lookup-none h =
      let none : d.w ≡ d.w - (0 + 0) = omega arith in
      ap (λ (shift : ℕ). no-bits shift at start) none ∙ lookup-here no_pair (sym (pair-beyond d i h))

module _ (d : Design) (l : Limits d) where
  pub few : (i : ℕ) → Few d i
  few i =
      elim (dec_lt i d.m) [
        | yes h ↦
            let t = l.table i h in
            record {
              b-small = t.b-high;
              bits_small = t.sum-high;
              bits-within = omega (arith, t.a-high, bits-end d l i h, l.alpha-below);
            }
        | no h ↦
            let e = pair-beyond d i (omega arith) in
            let no-a : a_of d i ≡ 0 = ap Pair.a e in
            let no-b : b_of d i ≡ 0 = ap Pair.b e in
            record { b-small = omega arith; bits_small = omega arith; bits-within = omega arith }
      ]

  count_small : (i : ℕ) → offset_count d i ≤ most_in_table
  count_small i = rw (count-is d i) (pow_mono {j = most_table_bits} (few i).bits_small)

  position-small : (i : ℕ) → position d i ≤ i * most_offset_bits
  unfolding position
  position-small i = sum-bounded i most_offset_bits (b_of d) (λ j h. (few j).b-small)

  start_small : (i : ℕ) → table_start d i ≤ i * most_in_table
  unfolding table_start
  start_small i = sum-bounded i most_in_table (offset_count d) (λ j h. count_small j)

  module _ (i : ℕ) (lookup : Lookup) (e : lookup ≡ lookup_of d i) where
    pub lookup-small : i < most_tables → Small lookup
    unfolding lookup_of
    lookup-small h =
        rw e
        (record {
          shift_small = omega (arith, l.widths.room.w-small);
          b-small = omega (arith, (few i).b-small);
          position-small = omega (arith, position-small i);
          start_small = omega (arith, start_small i);
        })

    -- Where the next table begins, by this one's lookup
    pub shift-within : lookup.shift ≤ d.w
    unfolding lookup_of
    shift-within = rw e (omega arith)

    count-again : 1 * 2 ^ (d.w - lookup.shift) % 2 ^ 32 ≡ offset_count d i
    unfolding lookup_of
    count-again =
        let bits : d.w - lookup.shift ≡ a_of d i + b_of d i = rw e (omega (arith, (few i).bits-within)) in
        rw (bits, count-is d i) (shl_one _ (omega (arith, (few i).bits_small)))

    pub count-again-small : 1 * 2 ^ (d.w - lookup.shift) % 2 ^ 32 ≤ most_in_table
    count-again-small = rw count-again (count_small i)

    pub position-next : lookup.position + lookup.b ≡ position d (i + 1)
    unfolding lookup_of position
    position-next = rw (e, sum-next)

    pub start-next : lookup.start + 1 * 2 ^ (d.w - lookup.shift) % 2 ^ 32 ≡ table_start d (i + 1)
    unfolding lookup_of table_start
    start-next = rw (count-again, e, sum-next)

-- The top bits of x from s on, without the low b of them
whole : (x s b : ℕ) → let top = x / 2 ^ s in top - top % 2 ^ b ≡ x / 2 ^ (s + b) * 2 ^ b
whole x s b = rw (← shr-shr x s b) (omega (arith, split (x / 2 ^ s) b))

module _ (d : Design) (l : Limits d) (i near x : ℕ) (more : i < d.m) (words : SameInterval d near x) where
  -- The words of one interval lie on one segment of each table, whose A_i is the top bits of A.
  same-segment : segment_word d i near ≡ segment_word d i x
  unfolding initial_word segment_word
  same-segment =
      let e : d.w - a_of d i ≡ d.w - d.alpha + (d.alpha - a_of d i) = omega (arith, (l.table i more).a-high, l.alpha-below) in
      rw (e, ← shr-shr near (d.w - d.alpha) (d.alpha - a_of d i), ← shr-shr x (d.w - d.alpha) (d.alpha - a_of d i), words.same)

  -- What its lookup asks
  pub lookup-asks : (lookup : Lookup) → lookup ≡ lookup_of d i → Small lookup × ((near < word_bound) × (x < word_bound))
  lookup-asks lookup e =
      let width = words-few l.widths.room in (
        lookup-small d l i lookup e (omega (arith, l.m-high)),
        (lt_of_lt_of_le words.near_word width, lt_of_lt_of_le words.word width),
      )

  -- So the lookup of a table that is read leads to the place of x's offset,
  pub place_is : place_at (lookup_of d i) near x ≡ offset_place d i (segment_word d i x) (offset_word d i x)
  unfolding place_at lookup_of offset_place stored_place stored_count stored_index segment_word offset_word
  place_is =
      let e : d.w - (a_of d i + b_of d i) + b_of d i ≡ d.w - a_of d i = omega (arith, (few d l i).bits-within) in
      rw (whole near (d.w - (a_of d i + b_of d i)) (b_of d i), e, same-segment)

  -- which lies within the offset tables.
  pub place-lt : place_at (lookup_of d i) near x < offset_total d
  place-lt =
      rw place_is
      (place-in-total d i _ _ more (segment-word-lt d l i x more words.word) (offset-word-lt d i x))

-- The four lookups of a design, one by one
pub record Looked (d : Design) (lookups : Lookups) : Type 0 where
  pub first-is : lookups.first ≡ lookup_of d 0
  pub second_is : lookups.second ≡ lookup_of d 1
  pub third-is : lookups.third ≡ lookup_of d 2
  pub fourth-is : lookups.fourth ≡ lookup_of d 3

pub looked : {d : Design} {lookups : Lookups} → lookups ≡ lookups_of d → Looked d lookups
unfolding lookups_of
looked e =
    record {
      first-is = ap Lookups.first e;
      second_is = ap Lookups.second e;
      third-is = ap Lookups.third e;
      fourth-is = ap Lookups.fourth e;
    }
