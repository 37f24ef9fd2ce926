-- The offsets, segment by segment and table by table: what is written so far, and that more can be asked for and has room.
use mathlib.Core.Path.{◌≡◌, refl, sym, ◌∙◌}
use mathlib.Core.Bool.{Bool}
use mathlib.Core.List.{List, ◌++◌}
use Prim.Native.Nat.{ℕ, ◌+◌, ◌*◌, ◌/◌, ◌%◌, ◌^◌, ◌≤◌, ◌<◌}
use native.Mathlib.Nat.{mul-le-mul_right, zero-add, zero-mul}
use native.Mathlib.Numerals.{add-one}
use native.Mathlib.Omega.{arith}
use borrow.Rule.Slice.PartMut.{put_mid}
use lib.IntN.{ℤ}
use lib.ListN.{length}
use lib.Pow.{high, low}
use Rattle.general.specs.Below.{sum_below, list_below}
use Rattle.general.specs.Lists.{over}
use Rattle.general.proofs.Sums.{sum_step, sum-next}
use Rattle.general.proofs.ListLaws.{list_length, list-add, list-congruence}
use Rattle.general.proofs.WritingLaws.{over_none, over-more}
use Rattle.values.specs.declared.rows.Row.{Row}
use Rattle.values.specs.Slopes.{slope_sum}
use Rattle.design.specs.declared.Design.{Design}
use Rattle.design.specs.Cut.{a_of, b_of, row, fraction_bits, position}
use Rattle.design.specs.Stored.{offset_count, table_start, offset_total, stored_count, stored_word}
use Rattle.entries.specs.Entries.{offset_at, hi_at, lo_at, offset_of}
use Rattle.filling.specs.Fill.{table_entries, offsets_below, stored_offset}
use Rattle.filling.specs.Segment.{segment_offsets}
use Rattle.filling.proofs.EntryLaws.{table-length, offsets-length}
use Rattle.filling.proofs.PartLaws.{over-whole, part-over}

segment-length : (slopes b p : ℕ) (rising : Bool) → length (segment_offsets slopes b p rising) ≡ 2 ^ b
unfolding segment_offsets
segment-length slopes b p rising = list_length _ (2 ^ b)

module _ (d : Design) (i : ℕ) where
  -- An offset by the numbers that it is made of
  offset-parts : (A B : ℕ) → stored_offset d i A B ≡ offset_of (hi_at d i A + lo_at d i A) (b_of d i) (position d i) (row d).rising B
  unfolding stored_offset stored_word offset_at
  offset-parts A B = refl

  -- Hi + Lo of a segment by the numbers that the calls are handed
  pub slopes-are : (A : ℕ) {slopes a : ℕ} {r : Row} → r ≡ row d → a ≡ a_of d i
      → slopes ≡ slope_sum r d.w (fraction_bits d) a A → slopes ≡ hi_at d i A + lo_at d i A
  unfolding slope_sum hi_at lo_at
  slopes-are A row_is a-is sum_is_lem = sum_is_lem ∙ rw (row_is, a-is)

  -- The offsets of the first n segments
  pub first_segments : ℕ → List ℤ
  first_segments n = list_below (n * 2 ^ b_of d i) (λ k. stored_offset d i (k / 2 ^ b_of d i) (k % 2 ^ b_of d i))

  first-length : (n : ℕ) → length (first_segments n) ≡ n * 2 ^ b_of d i
  unfolding first_segments
  first-length n = list_length _ (n * 2 ^ b_of d i)

  -- and with one segment more
  next-segment : (n : ℕ) → first_segments n ++ segment_offsets (hi_at d i n + lo_at d i n) (b_of d i) (position d i) (row d).rising
      ≡ first_segments (n + 1)
  unfolding first_segments segment_offsets
  next-segment n =
      let one = 2 ^ b_of d i in
      let f : ℕ → ℤ = λ k. stored_offset d i (k / one) (k % one) in
      let more : (n + 1) * one ≡ n * one + one = omega arith in
      let here : list_below one (offset_of (hi_at d i n + lo_at d i n) (b_of d i) (position d i) (row d).rising)
      ≡ list_below one (λ j. f (n * one + j)) =
      list-congruence _ _ one (λ j h. sym (rw (high n (b_of d i) h, low n (b_of d i) h) (offset-parts n j))) in
      rw (more, here) (sym (list-add f (n * one) one))

  -- Those of all segments are the table's.
  all-segments : first_segments (2 ^ a_of d i) ≡ table_entries d i
  unfolding first_segments table_entries offset_count stored_count
  all-segments = refl

  pub count-is : offset_count d i ≡ 2 ^ a_of d i * 2 ^ b_of d i
  unfolding offset_count stored_count
  count-is = refl

  -- Each segment lies within the table,
  pub segment-room : (n : ℕ) → n < 2 ^ a_of d i → n * 2 ^ b_of d i + 2 ^ b_of d i ≤ offset_count d i
  segment-room n n-lt = omega (arith, count-is, mul-le-mul_right (2 ^ b_of d i) n-lt)

-- as each table lies within the offsets.
pub table-room : (d : Design) (n : ℕ) → n < d.m → table_start d n + offset_count d n ≤ offset_total d
unfolding offset_total table_start
table-room d n h = sum_step (offset_count d) n d.m h

next-table : (d : Design) (n : ℕ) → table_start d (n + 1) ≡ table_start d n + offset_count d n
unfolding table_start
next-table d n = rw sum-next

-- The first n segments of table i are written over what the table held before.
pub record Segments (d : Design) (i : ℕ) (before table : List ℤ) (n : ℕ) : Type 0 where
  pub so_far : table ≡ over before 0 (first_segments d i n)

module _ (d : Design) (i : ℕ) where
  pub segments-start : (before : List ℤ) → Segments d i before before 0
  unfolding first_segments list_below
  segments-start before = record { so_far = rw zero-mul (over_none before 0) }

  module _ {before table : List ℤ} (long : length before ≡ offset_count d i) {n : ℕ} (segments : Segments d i before table n) where
    -- one segment more, in the part of the table that was lent for it, by the numbers that the calls are handed
    pub segments-next : {part : List ℤ} {slopes b p at k : ℕ} {rising : Bool} → slopes ≡ hi_at d i n + lo_at d i n → b ≡ b_of d i
        → p ≡ position d i → rising ≡ (row d).rising → n < 2 ^ a_of d i → at ≡ n * 2 ^ b → k ≡ 2 ^ b
        → part ≡ segment_offsets slopes b p rising → Segments d i before (put_mid at k table part) (n + 1)
    segments-next {part} {slopes} {b} {p} {at} {k} {rising} slopes-is b-is p-is rising-is n-lt at-is k-is part-is =
        let first = first-length d i n in
        let room = segment-room d i n n-lt in
        let part-long : length part ≡ k = rw (part-is, k-is) (segment-length slopes b p rising) in
        let place_is : at ≡ 0 + length (first_segments d i n) = rw b-is at at-is ∙ sym first ∙ sym (zero-add _) in
        record {
          so_far = part-over table part at k part-long
              ∙ rw (part-is, slopes-is, b-is, p-is, rising-is, segments.so_far, place_is, ← next-segment d i n)
              (over-more before 0 (first_segments d i n) (omega arith) _);
        }

    pub segments-end : n ≡ 2 ^ a_of d i → table ≡ table_entries d i
    segments-end e =
        segments.so_far ∙ rw (e, all-segments d i) (over-whole before (table_entries d i) (long ∙ sym (table-length d i)))

-- The first n tables are written over what the offsets held before; the next one begins at this place, and its bits at p.
pub record Tables (d : Design) (before table : List ℤ) (at p n : ℕ) : Type 0 where
  pub so_far : table ≡ over before 0 (offsets_below d n)
  pub place : at ≡ table_start d n
  pub bits : p ≡ position d n

module _ (d : Design) where
  pub tables_start : (before : List ℤ) → Tables d before before 0 0 0
  unfolding offsets_below table_start position sum_below
  tables_start before = record { so_far = over_none before 0; place = refl; bits = refl }

  module _ {before table : List ℤ} (long : offset_total d ≤ length before) {at p n : ℕ} (tables : Tables d before table at p n) where
    -- one table more, in the part of the offsets that was lent for it
    pub tables-next : {part : List ℤ} {b end k : ℕ} → n < d.m → b ≡ b_of d n → end ≡ at + offset_count d n → k ≡ offset_count d n
        → part ≡ table_entries d n → Tables d before (put_mid at k table part) end (p + b) (n + 1)
    unfolding offsets_below position
    tables-next {part} {b} {end} {k} n-lt b-is end-is k-is part-is =
        let first = offsets-length d n in
        let room = table-room d n n-lt in
        let part-long : length part ≡ k = rw (part-is, k-is) (table-length d n) in
        let place_is : at ≡ 0 + length (offsets_below d n) = omega (arith, tables.place) in
        record {
          so_far = part-over table part at k part-long
              ∙ rw (part-is, tables.so_far, place_is, add-one) (over-more before 0 (offsets_below d n) (omega arith) (table_entries d n));
          place = end-is ∙ rw tables.place (sym (next-table d n));
          bits = rw (sum-next, tables.bits, b-is);
        }
