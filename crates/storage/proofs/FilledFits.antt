-- What the fill writes can be stored: initial entries and T of an offset are small.
use Rattle.std.specs.Prelude.{Ok}
use mathlib.Core.Path.{◌≡◌}
use mathlib.Core.Bool.{Bool, true, false, cond}
use mathlib.Core.List.{List}
use Prim.Native.Nat.{ℕ, ◌-◌, ◌*◌, ◌^◌, ◌<◌}
use native.Mathlib.Omega.{arith}
use lib.ListN.{length}
use lib.IntN.{ℤ, pos, negsuc}
use borrow.Author.Tests.{lt-ltb}
use Rattle.design.specs.declared.Design.{Design}
use Rattle.design.specs.Cut.{a_of, b_of, row}
use Rattle.design.specs.Stored.{initial_count, offset_total, stored_count, stored_word}
use Rattle.design.specs.Legal.{Legal}
use Rattle.design.proofs.LegalLaws.{Limits, limits}
use Rattle.design.proofs.StoredLaws.{entry_at, word_lt}
use Rattle.entries.specs.Entries.{initial_at, odd_number, same_sign, signed, offset_of, offset_at}
use Rattle.entries.proofs.EntryBounds.{initial-in-range, initial-small, magnitude-small, slopes-reach}
use Rattle.filling.specs.Fill.{fill_verdict, initial_after, offsets_after, Filled, stored_offset}
use Rattle.filling.proofs.EntryLaws as EntryLaws
use Rattle.encoding.specs.Bytes.{fits, fits_signed, entry_bytes}
use Rattle.storage.specs.Sets.{TableSet, Storable}
use Rattle.storage.proofs.Fitting.{lines_fit}

-- T and -1 - T fit alike.
either-fits : (n T : ℕ) → T < 2 ^ (8 * n - 1) → (same : Bool) → fits_signed n (cond same (pos T) (negsuc T)) ≡ true
unfolding fits_signed
either-fits n T h true = lt-ltb _ _ h
either-fits n T h false = lt-ltb _ _ h

module _ (d : Design) (l : Limits d) where
  initial-fits : (A : ℕ) → A < initial_count d → fits entry_bytes (initial_at d A) ≡ true
  unfolding fits
  initial-fits A h = lt-ltb (initial_at d A) (2 ^ (8 * entry_bytes)) (omega (arith, initial-small d l A h))

  offset-fits : (i A index : ℕ) → i < d.m → A < 2 ^ a_of d i → index < stored_count d i
      → fits_signed entry_bytes (stored_offset d i A index) ≡ true
  unfolding stored_offset offset_at offset_of signed
  offset-fits i A index i_lt A-lt index-lt =
      let B = stored_word d i index in
      either-fits entry_bytes _ (omega (arith, magnitude-small _ _ _ B (slopes-reach d l i A i_lt A-lt) (word_lt d i (l.table i i_lt).b-low index index-lt)))
      (same_sign (row d).rising (odd_number (b_of d i) B))

-- Legality is enough; the fill writes an admitted design only.
pub filled-storable : (t : TableSet) → Legal t.design → Filled t.design t.initial t.offsets → Storable t
unfolding offset_total
filled-storable t legal filled =
    let d = t.design in
    record {
      usable = record { legal = legal; initial-long = filled.initial-long; offsets-long = filled.offsets-long };
      fits =
          lines_fit d t.initial t.offsets
          (λ index h. rw (filled.initial-entry index h) (initial-fits d (limits d legal) index h))
          (λ place h.
          let at = entry_at d d.m place h in
          rw (
            ← at.place,
            filled.offset-entry at.i at.A at.index at.i_lt at.entry.A-lt at.entry.index-lt,
          )
          (offset-fits d (limits d legal) at.i at.A at.index at.i_lt at.entry.A-lt at.entry.index-lt));
      below = λ index h. rw (filled.initial-entry index h) (initial-in-range d (limits d legal) index h);
    }

-- "an accepted fill leaves such tables"
pub fill-storable : (d : Design) (initial : List ℕ) (offsets : List ℤ) → fill_verdict d (length initial) (length offsets) ≡ Ok tt
    → Storable (record { design = d; initial = initial_after d initial offsets; offsets = offsets_after d initial offsets })
fill-storable d initial offsets passed =
    filled-storable _ (EntryLaws.fill-usable d initial offsets passed).legal (EntryLaws.filled d initial offsets passed)
