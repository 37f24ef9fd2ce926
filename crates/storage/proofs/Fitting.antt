-- Each line of a set carries its entry where each entry fits and each initial entry is below the limit on sums, and the other way round.
use mathlib.Core.Path.{◌≡◌}
use mathlib.Core.Bool.{true}
use mathlib.Core.List.{List}
use Prim.Native.Nat.{ℕ, ◌+◌, ◌<◌}
use native.Mathlib.Omega.{arith}
use lib.ListN.{length, get_or}
use lib.IntN.{ℤ, pos}
use borrow.Author.Tests.{lt-leb, leb-false}
use Rattle.design.specs.declared.Design.{Design}
use Rattle.design.specs.Stored.{initial_count, offset_total}
use Rattle.tables.specs.Inputs.{Usable}
use Rattle.encoding.specs.Bytes.{fits, fits_signed, entry_bytes}
use Rattle.lines.specs.Slots.{line_count, offset_slot, slot_of}
use Rattle.lines.specs.Lines.{entry_number, entry_fits, entry_over}
use Rattle.lines.proofs.SlotLaws.{
  line-is,
  first-line,
  initial-line,
  offset-line,
  last-line,
  slot-first,
  slot-initial,
  slot-offset,
  slot-last,
}
use Rattle.writing.proofs.WriteLaws.{Carried}
use Rattle.storage.specs.Sets.{TableSet, Storable}

pub lines_fit : (d : Design) (initial : List ℕ) (offsets : List ℤ)
    → ((index : ℕ) → index < initial_count d → fits entry_bytes (get_or initial index 0) ≡ true)
    → ((place : ℕ) → place < offset_total d → fits_signed entry_bytes (get_or offsets place (pos 0)) ≡ true)
    → (n : ℕ) → n < line_count d → entry_fits (slot_of d n) initial offsets ≡ true
unfolding entry_fits offset_slot
lines_fit d initial offsets initial-fits offset-fits n h =
    elim (line-is d n h) [
      | first-line e ↦ rw (e, slot-first d)
      | initial-line index e k ↦ rw (slot-initial d n index e k) (initial-fits index k)
      | offset-line place e k ↦ rw (slot-offset d n place e k) (offset-fits place k)
      | last-line e ↦ rw (slot-last d n e)
    ]

module _ (t : TableSet) where
  -- A set that can be written: each of its lines carries its entry,
  pub storable-lines : Storable t → (n : ℕ) → n < line_count t.design
      → Carried t.design (slot_of t.design n) t.initial t.offsets
  unfolding entry_over entry_number offset_slot
  storable-lines ok n h =
      let d = t.design in
      record {
        fits = ok.fits n h;
        below =
            elim (line-is d n h) [
              | first-line e ↦ rw (e, slot-first d)
              | initial-line index e k ↦ rw (slot-initial d n index e k) (lt-leb _ _ (ok.below index k))
              | offset-line place e k ↦ rw (slot-offset d n place e k)
              | last-line e ↦ rw (slot-last d n e)
            ];
      }

  -- and a set each of whose lines does can be written.
  pub lines-storable : Usable t.design (length t.initial) (length t.offsets)
      → ((n : ℕ) → n < line_count t.design → Carried t.design (slot_of t.design n) t.initial t.offsets) → Storable t
  unfolding line_count entry_over entry_number
  lines-storable usable entries =
      let d = t.design in
      record {
        usable = usable;
        fits = λ n h. (entries n h).fits;
        below = λ index h.
            leb-false _ _ (rw (slot-initial d (index + 1) index (omega arith) h) at (entries (index + 1) (omega arith)).below);
      }
