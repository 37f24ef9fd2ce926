-- Which sets lines and records hold: an entry fits in records as its line's does.
use mathlib.Core.Path.{◌≡◌}
use mathlib.Core.Bool.{true}
use mathlib.Core.Logic.{◌≢◌}
use Prim.Native.Nat.{ℕ, ◌+◌, ◌-◌, ◌*◌, ◌^◌, ◌≤◌, ◌<◌}
use native.Mathlib.Decide.{dec_lt}
use native.Mathlib.Omega.{arith}
use lib.ListN.{get_or, set, length-set}
use lib.Seq.{get_or-set_same, get_or-set_other}
use lib.IntN.{pos}
use borrow.Author.Tests.{lt-ltb, le-ltb}
use Rattle.design.specs.declared.Design.{Design}
use Rattle.design.specs.Cut.{sum_limit}
use Rattle.design.specs.Stored.{initial_count, offset_total}
use Rattle.encoding.specs.Bytes.{entry_bytes, fits, fits_signed}
use Rattle.lines.specs.Slots.{line_count, offset_slot}
use Rattle.lines.specs.Lines as Lines
use Rattle.lines.proofs.SlotLaws.{slot-initial, slot-offset}
use Rattle.records.specs.SetBytes.{entry_count, byte_count, entry_fits, most_bytes}
use Rattle.storage.specs.Sets.{TableSet, Storable}
use Rattle.storage.proofs.Fitting.{lines_fit}
use Rattle.record_storage.specs.RecordStorage.{Recordable}
use Rattle.record_storage.specs.LinesAndRecords.{with_entry, LinesAndRecords}

module _ (t : TableSet) where
  abbrev d : Design
  d = t.design

  -- The entries fit,
  record EntriesFit : Type 0 where
    initial : (index : ℕ) → index < initial_count d → fits entry_bytes (get_or t.initial index 0) ≡ true
    offsets : (place : ℕ) → place < offset_total d → fits_signed entry_bytes (get_or t.offsets place (pos 0)) ≡ true

  -- said of a set's lines,
  lines-tell : Storable t → EntriesFit
  unfolding line_count offset_slot Lines.entry_fits
  lines-tell ok =
      record {
        initial = λ index h. rw (slot-initial d (index + 1) index (omega arith) h) at (ok.fits (index + 1) (omega arith));
        offsets = λ place h.
            rw (slot-offset d (initial_count d + 1 + place) place (omega arith) h) at
            (ok.fits (initial_count d + 1 + place) (omega arith));
      }

  -- and of its records.
  records-tell : Recordable t → EntriesFit
  unfolding entry_count entry_fits
  records-tell ok =
      record {
        initial = λ index h. rw (lt-ltb index (initial_count d) h) at (ok.fits index (omega arith));
        offsets = λ place h.
            let at : initial_count d + place - initial_count d ≡ place = omega arith in
            rw (le-ltb (initial_count d + place) (initial_count d) (omega arith), at) at (ok.fits (initial_count d + place) (omega arith));
      }

  each_fits : EntriesFit → (e : ℕ) → e < entry_count d → entry_fits (initial_count d) t.initial t.offsets e ≡ true
  unfolding entry_count entry_fits
  each_fits fit e h =
      elim (dec_lt e (initial_count d)) [
        | yes own ↦ rw (lt-ltb e (initial_count d) own) (fit.initial e own)
        | no other ↦ rw (le-ltb e (initial_count d) (omega arith)) (fit.offsets (e - initial_count d) (omega arith))
      ]

  pub storable-recordable : Storable t → byte_count d ≤ most_bytes → Recordable t
  storable-recordable ok few = record { usable = ok.usable; addressed = few; fits = each_fits (lines-tell ok) }

  pub recordable-storable : Recordable t → ((index : ℕ) → index < initial_count d → get_or t.initial index 0 < sum_limit d) → Storable t
  recordable-storable ok below =
      let fit = records-tell ok in
      record { usable = ok.usable; fits = lines_fit d t.initial t.offsets fit.initial fit.offsets; below = below }

-- An initial entry that is changed fits, and the others do as before.
module _ (t : TableSet) (index entry : ℕ) (ok : Recordable t) (small : entry < 2 ^ (8 * entry_bytes)) where
  abbrev Fits : ℕ → Type 0
  Fits i = fits entry_bytes (get_or (set t.initial index entry) i 0) ≡ true

  other_fits : (i : ℕ) → i < initial_count t.design → i ≢ index → Fits i
  other_fits i h other = rw (get_or-set_other t.initial index i entry 0 other) ((records-tell t ok).initial i h)

  own-fits : (i : ℕ) → i < initial_count t.design → i ≡ index → Fits i
  unfolding fits
  own-fits i h same =
      rw (same, get_or-set_same t.initial index entry 0 (omega (arith, ok.usable.initial-long))) (lt-ltb _ _ small)

  changed-fits : (i : ℕ) → i < initial_count t.design → Fits i
  changed-fits i h =
      elim (dec_lt i index) [
        | yes before ↦ other_fits i h (λ e. omega arith)
        | no k ↦
            elim (dec_lt index i) [
              | yes behind ↦ other_fits i h (λ e. omega arith)
              | no l ↦ own-fits i h (omega arith)
            ]
      ]

  changed-recordable : Recordable (with_entry t index entry)
  changed-recordable =
      record {
        usable = rw (length-set t.initial index entry) ok.usable;
        addressed = ok.addressed;
        fits = each_fits (with_entry t index entry) (record { initial = changed-fits; offsets = (records-tell t ok).offsets });
      }

pub lines-and-records : LinesAndRecords
lines-and-records =
    record {
      to-records = storable-recordable;
      to-lines = recordable-storable;
      still-carried = changed-recordable;
      not-in-lines = λ t index within over ok. omega (arith, ok.below index within);
    }
