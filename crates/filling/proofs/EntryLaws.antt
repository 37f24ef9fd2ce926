-- The entries that the fill writes: how many there are, which stands where, and that an accepted fill leaves filled tables.
use Rattle.std.specs.Prelude.{Ok}
use mathlib.Core.Path.{◌≡◌, refl, sym, ◌∙◌}
use mathlib.Core.List.{List, [], ◌∷◌}
use Prim.Native.Nat.{ℕ, zero, suc, ◌+◌, ◌*◌, ◌≤◌, ◌<◌}
use native.Mathlib.Nat.{not-suc-le-zero}
use native.Mathlib.Omega.{arith}
use lib.Arith.{digits_lt, digits_div, digits_mod}
use lib.ListN.{length, get_or, take, length-append, get_or-append}
use lib.Seq.{get_or-append-add, get_or-take, length-take-le, ext_get_or}
use lib.IntN.{ℤ, pos}
use Rattle.general.specs.Below.{sum_below}
use Rattle.general.proofs.WritingLaws.{kept-length}
use Rattle.general.proofs.ListLaws.{list_length, list_at}
use Rattle.general.proofs.Sums.{below_suc}
use Rattle.refusal.proofs.Checks.{passed-append}
use Rattle.design.specs.declared.Design.{Design}
use Rattle.design.specs.Stored.{initial_count, offset_count, table_start, offset_total, stored_count, stored_place}
use Rattle.design.proofs.StoredLaws.{Entry, place-below, entry_at}
use Rattle.design.specs.Budget.{admitted_check}
use Rattle.entries.specs.Entries.{initial_at}
use Rattle.tables.specs.Inputs.{Usable}
use Rattle.tables.specs.Set.{set_checks}
use Rattle.tables.proofs.SetLaws.{usable}
use Rattle.filling.specs.Fill.{
  fill_verdict,
  initial_entries,
  table_entries,
  offsets_below,
  offset_entries,
  initial_after,
  offsets_after,
  Filled,
  stored_offset,
}

module _ (d : Design) where
  pub initial-length : length (initial_entries d) ≡ initial_count d
  unfolding initial_entries
  initial-length = list_length (initial_at d) (initial_count d)

  pub initial-at : (A : ℕ) → A < initial_count d → get_or (initial_entries d) A 0 ≡ initial_at d A
  unfolding initial_entries
  initial-at A = list_at (initial_at d) (initial_count d) A 0

  pub table-length : (i : ℕ) → length (table_entries d i) ≡ offset_count d i
  unfolding table_entries
  table-length i = list_length _ (offset_count d i)

  table_at : (i A index : ℕ) (z : ℤ) → Entry d i A index
      → get_or (table_entries d i) (A * stored_count d i + index) z ≡ stored_offset d i A index
  unfolding table_entries offset_count
  table_at i A index z entry =
      list_at _ (offset_count d i) (A * stored_count d i + index) z (digits_lt entry.A-lt entry.index-lt)
      ∙ rw (digits_div A entry.index-lt, digits_mod A entry.index-lt)

  -- "Offset tables lie one after another, table 0 first"
  pub offsets-length : (n : ℕ) → length (offsets_below d n) ≡ table_start d n
  unfolding offsets_below table_start sum_below
  offsets-length zero = refl
  offsets-length (suc n) = rw (length-append, offsets-length n, table-length n)

  pub offset-at : (n i A index : ℕ) (z : ℤ) → i < n → Entry d i A index
      → get_or (offsets_below d n) (stored_place d i A index) z ≡ stored_offset d i A index
  unfolding offsets_below stored_place
  offset-at zero i A index z h entry = absurd (not-suc-le-zero h)
  offset-at (suc n) i A index z h entry =
      below_suc h
      (λ last. rw last
      (rw (← offsets-length n) (get_or-append-add (offsets_below d n) (table_entries d n) _ z) ∙ table_at n A index z (rw last at entry)))
      (λ below. get_or-append (offsets_below d n) (table_entries d n) z _ (rw (offsets-length n) (place-below d n i A index below entry))
      ∙ offset-at n i A index z below entry)

-- "an accepted fill leaves such tables"
module _ (d : Design) (initial : List ℕ) (offsets : List ℤ) where
  pub fill-usable : fill_verdict d (length initial) (length offsets) ≡ (Ok tt) → Usable d (length initial) (length offsets)
  unfolding fill_verdict
  fill-usable e = usable d _ _ (passed-append (set_checks d _ _) (admitted_check d ∷ []) e).0

  pub filled : fill_verdict d (length initial) (length offsets) ≡ (Ok tt)
      → Filled d (initial_after d initial offsets) (offsets_after d initial offsets)
  unfolding initial_after offsets_after offset_entries offset_total
  filled e =
      let u = fill-usable e in
      let initial-fits : length (initial_entries d) ≤ length initial = omega (arith, initial-length d, u.initial-long) in
      let offsets-fit : length (offsets_below d d.m) ≤ length offsets = omega (arith, offsets-length d d.m, u.offsets-long) in
      rw e
      (record {
        initial-long = rw (kept-length (initial_entries d) initial initial-fits) u.initial-long;
        offsets-long = rw (kept-length (offsets_below d d.m) offsets offsets-fit) u.offsets-long;
        initial-entry = λ A h. get_or-append (initial_entries d) _ 0 A (rw (initial-length d) h) ∙ initial-at d A h;
        offset-entry = λ i A index h a b.
            let entry : Entry d i A index = record { A-lt = a; index-lt = b } in
            get_or-append (offsets_below d d.m) _ (pos 0) _ (rw (offsets-length d d.m) (place-below d d.m i A index h entry))
            ∙ offset-at d d.m i A index (pos 0) h entry;
      })

-- `Filled` says that the tables begin with the entries the fill writes: as lists,
module _ (d : Design) (initial : List ℕ) (offsets : List ℤ) where
  pub filled-begins : Filled d initial offsets
      → (take (initial_count d) initial ≡ initial_entries d) × (take (offset_total d) offsets ≡ offset_entries d)
  unfolding offset_entries offset_total
  filled-begins f = (
    ext_get_or 0 _ _ (length-take-le _ initial f.initial-long ∙ sym (initial-length d))
        (λ A h.
        let A-lt : A < initial_count d = omega (arith, length-take-le (initial_count d) initial f.initial-long) in
        get_or-take (initial_count d) initial A 0 A-lt ∙ f.initial-entry A A-lt ∙ sym (initial-at d A A-lt)),
    ext_get_or (pos 0) _ _ (length-take-le _ offsets f.offsets-long ∙ sym (offsets-length d d.m))
        (λ p h.
        let p-lt : p < table_start d d.m = omega (arith, length-take-le (table_start d d.m) offsets f.offsets-long) in
        let at = entry_at d d.m p p-lt in
        get_or-take (table_start d d.m) offsets p (pos 0) p-lt
        ∙ rw (← at.place)
        (f.offset-entry at.i at.A at.index at.i_lt at.entry.A-lt at.entry.index-lt
        ∙ sym (offset-at d d.m at.i at.A at.index (pos 0) at.i_lt at.entry))),
  )
