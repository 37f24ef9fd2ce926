-- An entry that is stored changes no other line.
use mathlib.Core.Path.{◌≡◌, refl, ap, ◌∙◌}
use mathlib.Core.Logic.{◌≢◌}
use mathlib.Core.List.{List}
use Prim.Native.Nat.{ℕ, ◌+◌, ◌<◌}
use native.Mathlib.Nat.{lt_trans}
use native.Mathlib.Omega.{arith}
use lib.ListN.{get_or}
use lib.Seq.{get_or-set_other}
use lib.IntN.{ℤ, pos}
use Rattle.design.specs.declared.Design.{Design}
use Rattle.design.specs.Stored.{initial_count}
use Rattle.encoding.specs.Bytes.{complement, fits, fits_signed, from_complement, entry_bytes}
use Rattle.lines.specs.declared.Slot.{Slot}
use Rattle.lines.specs.Slots.{line_count, slot_of, offset_slot}
use Rattle.lines.specs.Lines.{entry_number, entry_fits, frame_of, line_at}
use Rattle.lines.proofs.SlotLaws.{
  line-is,
  first-line,
  initial-line,
  offset-line,
  last-line,
  slot-first,
  slot-initial,
  slot-offset,
  slot-last,
}
use Rattle.writing.proofs.WriteLaws.{Carried}
use Rattle.reading.specs.ReadLine.{initial_stored, offsets_stored}

-- The line holds another entry than the initial entry at an index, or than the offset at a place.
abbrev OtherInitial : ℕ → Slot → Type 0
OtherInitial i Slot.Design = Unit {0}
OtherInitial i (Slot.Initial index) = i ≢ index
OtherInitial i (Slot.Offset table index place) = Unit {0}
OtherInitial i (Slot.End before) = Unit {0}

abbrev OtherOffset : ℕ → Slot → Type 0
OtherOffset p Slot.Design = Unit {0}
OtherOffset p (Slot.Initial index) = Unit {0}
OtherOffset p (Slot.Offset table index place) = p ≢ place
OtherOffset p (Slot.End before) = Unit {0}

-- Two lines hold different entries, or one of them none.
abbrev Apart : Slot → Slot → Type 0
Apart Slot.Design other = Unit {0}
Apart (Slot.Initial index) other = OtherInitial index other
Apart (Slot.Offset table index place) other = OtherOffset place other
Apart (Slot.End before) other = Unit {0}

-- Different lines of a set do.
module _ (d : Design) (j n : ℕ) (earlier : j < n) (within : n < line_count d) where
  other-initial : (i : ℕ) → j ≡ i + 1 → OtherInitial i (slot_of d n)
  unfolding offset_slot
  other-initial i e =
      elim (line-is d n within) [
        | first-line f ↦ rw (f, slot-first d) tt
        | initial-line index f h ↦ rw (slot-initial d n index f h) (λ same. omega arith)
        | offset-line place f h ↦ rw (slot-offset d n place f h) tt
        | last-line f ↦ rw (slot-last d n f) tt
      ]

  other_offset : (p : ℕ) → j ≡ initial_count d + 1 + p → OtherOffset p (slot_of d n)
  unfolding offset_slot
  other_offset p e =
      elim (line-is d n within) [
        | first-line f ↦ rw (f, slot-first d) tt
        | initial-line index f h ↦ rw (slot-initial d n index f h) tt
        | offset-line place f h ↦ rw (slot-offset d n place f h) (λ same. omega arith)
        | last-line f ↦ rw (slot-last d n f) tt
      ]

  apart : Apart (slot_of d j) (slot_of d n)
  unfolding offset_slot
  apart =
      elim (line-is d j (lt_trans earlier within)) [
        | first-line e ↦ rw (e, slot-first d) tt
        | initial-line index e h ↦ rw (slot-initial d j index e h) (other-initial index e)
        | offset-line place e h ↦ rw (slot-offset d j place e h) (other_offset place e)
        | last-line e ↦ rw (slot-last d j e) tt
      ]

-- An entry that is stored leaves every other as it was,
module _ (v : ℕ) (initial : List ℕ) (offsets : List ℤ) where
  initial-stands : (i : ℕ) (slot : Slot) → OtherInitial i slot → get_or (initial_stored slot v initial) i 0 ≡ get_or initial i 0
  unfolding initial_stored
  initial-stands i Slot.Design other = refl
  initial-stands i (Slot.Initial index) other = get_or-set_other initial index i v 0 other
  initial-stands i (Slot.Offset table index place) other = refl
  initial-stands i (Slot.End before) other = refl

  offset-stands : (p : ℕ) (slot : Slot) → OtherOffset p slot → get_or (offsets_stored slot v offsets) p (pos 0) ≡ get_or offsets p (pos 0)
  unfolding offsets_stored
  offset-stands p Slot.Design other = refl
  offset-stands p (Slot.Initial index) other = refl
  offset-stands p (Slot.Offset table index place) other = get_or-set_other offsets place p (from_complement entry_bytes v) (pos 0) other
  offset-stands p (Slot.End before) other = refl

  -- so what another line writes stands,
  number-stands : (slot stored : Slot) → Apart slot stored
      → entry_number slot (initial_stored stored v initial) (offsets_stored stored v offsets) ≡ entry_number slot initial offsets
  unfolding entry_number
  number-stands Slot.Design stored other = refl
  number-stands (Slot.Initial index) stored other = initial-stands index stored other
  number-stands (Slot.Offset table index place) stored other = ap (complement entry_bytes) (offset-stands place stored other)
  number-stands (Slot.End before) stored other = refl

  fits-stands : (slot stored : Slot) → Apart slot stored
      → entry_fits slot (initial_stored stored v initial) (offsets_stored stored v offsets) ≡ entry_fits slot initial offsets
  unfolding entry_fits
  fits-stands Slot.Design stored other = refl
  fits-stands (Slot.Initial index) stored other = ap (fits entry_bytes) (initial-stands index stored other)
  fits-stands (Slot.Offset table index place) stored other = ap (fits_signed entry_bytes) (offset-stands place stored other)
  fits-stands (Slot.End before) stored other = refl

-- and with it every earlier line.
module _ (d : Design) (v : ℕ) (initial : List ℕ) (offsets : List ℤ) (j n : ℕ) (earlier : j < n) (within : n < line_count d) where
  pub earlier-line : line_at d (initial_stored (slot_of d n) v initial) (offsets_stored (slot_of d n) v offsets) j ≡ line_at d initial offsets j
  unfolding line_at frame_of
  earlier-line = rw (number-stands v initial offsets (slot_of d j) (slot_of d n) (apart d j n earlier within))

  pub earlier-entry : Carried d (slot_of d j) initial offsets
      → Carried d (slot_of d j) (initial_stored (slot_of d n) v initial) (offsets_stored (slot_of d n) v offsets)
  earlier-entry entry =
      let other = apart d j n earlier within in
      record {
        fits = fits-stands v initial offsets (slot_of d j) (slot_of d n) other ∙ entry.fits;
        below = rw (number-stands v initial offsets (slot_of d j) (slot_of d n) other) entry.below;
      }
