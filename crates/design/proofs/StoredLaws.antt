-- The entries that a set stores: each lies at a place of its own, and every place is one of an entry.
use mathlib.Core.Path.{◌≡◌, refl, sym, ◌∙◌}
use Prim.Native.Nat.{ℕ, zero, suc, ◌+◌, ◌-◌, ◌*◌, ◌/◌, ◌%◌, ◌^◌, ◌≤◌, ◌<◌}
use native.Mathlib.Nat.{le_refl, le_step, le_trans, mod-lt, mod-add-div, not-suc-le-zero, div-lt_iff_lt-mul}
use native.Mathlib.Decide.{dec_lt}
use native.Mathlib.Omega.{arith}
use lib.Arith.{digits_lt, digits_div, digits_mod}
use lib.IntN.{ℤ}
use lib.Pow.{pow-add, pow_mono, pow_pos}
use lib.Signed.{mag}
use Rattle.general.specs.Below.{sum_below}
use Rattle.general.proofs.Sums.{sum_mono, sum-bounded}
use Rattle.design.specs.declared.Design.{Design}
use Rattle.design.specs.Limits.{most_initial_bits, most_table_bits, most_initial, most_in_table, most_offsets}
use Rattle.design.specs.Cut.{a_of, b_of}
use Rattle.design.specs.Stored.{
  initial_count,
  stored_count,
  stored_index,
  offset_from,
  stored_word,
  offset_count,
  table_start,
  offset_total,
  stored_place,
  offset_place,
}
use Rattle.design.proofs.LegalLaws.{Limits}

-- What a segment stores: B reads one of its offsets, which is as large as B's own, and each belongs to a B.
module _ (d : Design) (i : ℕ) where
  pub count-pos : 0 < stored_count d i
  unfolding stored_count
  count-pos = pow_pos (b_of d i)

  pub index-lt : (B : ℕ) → B < 2 ^ b_of d i → stored_index d i B < stored_count d i
  unfolding stored_index stored_count
  index-lt B h = h

  pub word_lt : 1 ≤ b_of d i → (index : ℕ) → index < stored_count d i → stored_word d i index < 2 ^ b_of d i
  unfolding stored_word stored_count
  word_lt b-low index h = h

  pub from-size : (B : ℕ) (stored : ℤ) → mag (offset_from d i B stored) ≡ mag stored
  unfolding offset_from
  from-size B stored = refl

  -- "2^(a_i+b_i) offsets"
  pub count-is : offset_count d i ≡ 2 ^ (a_of d i + b_of d i)
  unfolding offset_count stored_count
  count-is = sym (pow-add 2 (a_of d i) (b_of d i))

-- An offset that table i stores: one of a segment's
pub record Entry (d : Design) (i A index : ℕ) : Type 0 where
  pub A-lt : A < 2 ^ a_of d i
  pub index-lt : index < stored_count d i

-- The offset of a table among the first n that lies at place p
pub record EntryAt (d : Design) (n p : ℕ) : Type 0 where
  pub i : ℕ
  pub A : ℕ
  pub index : ℕ
  pub i_lt : i < n
  pub entry : Entry d i A index
  pub place : stored_place d i A index ≡ p

module _ (d : Design) where
  -- The offsets of table i lie before table i + 1,
  pub place-in-table : (i A index : ℕ) → Entry d i A index → stored_place d i A index < table_start d (suc i)
  unfolding stored_place table_start sum_below offset_count
  place-in-table i A index entry = omega (arith, digits_lt entry.A-lt entry.index-lt)

  -- so before the end of the first n tables, where table i is one of them.
  pub place-below : (n i A index : ℕ) → i < n → Entry d i A index → stored_place d i A index < table_start d n
  unfolding table_start
  place-below n i A index h entry = le_trans (place-in-table i A index entry) (sum_mono (offset_count d) (suc i) n h)

  -- An entry's table is not before another's where their places are the same.
  not-before : (i A index j A' index' : ℕ) → Entry d i A index → stored_place d i A index ≡ stored_place d j A' index' → ¬ (i < j)
  unfolding stored_place
  not-before i A index j A' index' entry e h = omega (arith, place-below j i A index h entry)

  -- Different entries lie at different places.
  pub place-apart : (i A index j A' index' : ℕ) → Entry d i A index → Entry d j A' index'
      → stored_place d i A index ≡ stored_place d j A' index' → (i ≡ j) × (A ≡ A') × (index ≡ index')
  unfolding stored_place
  place-apart i A index j A' index' entry other e =
      let i-is : i ≡ j = omega (arith, not-before i A index j A' index' entry e, not-before j A' index' i A index other (sym e)) in
      let there : Entry d i A' index' = rw i-is other in
      let same : stored_place d i A index ≡ stored_place d i A' index' = e ∙ rw i-is in
      let rest : A * stored_count d i + index ≡ A' * stored_count d i + index' = omega (arith, same) in (
        i-is,
        cc (digits_div A entry.index-lt, digits_div A' there.index-lt),
        cc (digits_mod A entry.index-lt, digits_mod A' there.index-lt),
      )

  -- Every place before the end of the first n tables is one of an entry of theirs.
  pub entry_at : (n p : ℕ) → p < table_start d n → EntryAt d n p
  unfolding table_start sum_below offset_count stored_place
  entry_at zero p h = absurd (not-suc-le-zero h)
  entry_at (suc n) p h =
      elim (dec_lt p (table_start d n)) [
        | yes before ↦
            let r = entry_at n p before in
            record { i = r.i; A = r.A; index = r.index; i_lt = le_step r.i_lt; entry = r.entry; place = r.place }
        | no after ↦
            let k = p - table_start d n in
            let count = stored_count d n in
            record {
              i = n;
              A = k / count;
              index = k % count;
              i_lt = le_refl _;
              entry = record { A-lt = (div-lt_iff_lt-mul (count-pos d n)).1 (omega arith); index-lt = mod-lt k (count-pos d n) };
              place = omega (arith, mod-add-div k count);
            }
      ]

  -- What A and B read lies before the end of all.
  pub place-in-total : (i A B : ℕ) → i < d.m → A < 2 ^ a_of d i → B < 2 ^ b_of d i → offset_place d i A B < offset_total d
  unfolding offset_total offset_place
  place-in-total i A B h A-lt B-lt = place-below d.m i A _ h (record { A-lt = A-lt; index-lt = index-lt d i B B-lt })

-- What legality adds
module _ (d : Design) (l : Limits d) where
  -- How many offsets a table has, how many there are in all,
  pub count_small : (i : ℕ) → i < d.m → offset_count d i ≤ most_in_table
  count_small i h = rw (count-is d i) (pow_mono {j = most_table_bits} (l.table i h).sum-high)

  pub offset-total-small : offset_total d ≤ most_offsets
  unfolding offset_total table_start
  offset-total-small = omega (arith, sum-bounded d.m most_in_table (offset_count d) count_small, l.m-high)

  -- and how many initial entries
  pub initial-count-small : initial_count d ≤ most_initial
  unfolding initial_count
  initial-count-small = pow_mono {j = most_initial_bits} l.alpha-high
