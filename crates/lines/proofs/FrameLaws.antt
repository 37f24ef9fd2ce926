-- The frames of a set: how long they are, and that they are bytes.
use mathlib.Core.Path.{◌≡◌}
use mathlib.Core.Bool.{true}
use mathlib.Core.List.{List}
use Prim.Native.Nat.{ℕ, ◌+◌, ◌*◌, ◌^◌, ◌≤◌, ◌<◌}
use native.Mathlib.Nat.{le_refl}
use native.Mathlib.Omega.{arith}
use lib.ListN.{length, get_or, length-append}
use lib.IntN.{ℤ, pos}
use borrow.Author.Tests.{ltb-true}
use Rattle.design.specs.declared.Design.{Design}
use Rattle.design.specs.Legal.{Legal}
use Rattle.design.proofs.LegalLaws.{limits}
use Rattle.frames.specs.Line.{longest_line}
use Rattle.encoding.specs.Bytes.{big_endian, entry_bytes, fits}
use Rattle.encoding.proofs.HexBack.{Bytes, bytes-append}
use Rattle.encoding.proofs.NumberBack.{big-endian-length, big-endian-bytes}
use Rattle.encoding.proofs.ComplementBack.{complement-lt}
use Rattle.encoding.proofs.DesignBack.{design-length, design-small}
use Rattle.lines.specs.declared.Slot.{Slot}
use Rattle.lines.specs.Lines.{frame_head, entry_width, entry_number, entry_fits, frame_of}

-- A line that holds no design
abbrev pub Later : Slot → Type 0
Later Slot.Design = ⊥
Later (Slot.Initial index) = Unit {0}
Later (Slot.Offset table index place) = Unit {0}
Later (Slot.End before) = Unit {0}

-- The bytes before an entry are at most 4,
pub head-short : (d : Design) (slot : Slot) → Later slot → length (frame_head d slot) ≤ 4
unfolding frame_head
head-short d Slot.Design h = absurd h
head-short d (Slot.Initial index) h = omega (arith, big-endian-length 2 index)
head-short d (Slot.Offset table index place) h =
    omega (arith, length-append (big_endian 1 table) (big_endian 2 index), big-endian-length 1 table, big-endian-length 2 index)
head-short d (Slot.End before) h = omega (arith, big-endian-length 2 before)

-- an entry takes no more than its 3 bytes,
pub entry-short : (slot : Slot) → entry_width slot ≤ entry_bytes
unfolding entry_width
entry-short Slot.Design = omega arith
entry-short (Slot.Initial index) = le_refl _
entry-short (Slot.Offset table index place) = le_refl _
entry-short (Slot.End before) = omega arith

-- and no line is too long.
pub frame-short : (d : Design) → Legal d → (slot : Slot) → 2 * (length (frame_head d slot) + entry_width slot + 1) ≤ longest_line
unfolding frame_head entry_width
frame-short d legal Slot.Design = omega (arith, design-length d legal, (limits d legal).m-high)
frame-short d legal (Slot.Initial index) = omega (arith, head-short d (Slot.Initial index) tt)
frame-short d legal (Slot.Offset table index place) = omega (arith, head-short d (Slot.Offset table index place) tt)
frame-short d legal (Slot.End before) = omega (arith, head-short d (Slot.End before) tt)

pub head_small : (d : Design) → Legal d → (slot : Slot) → Bytes (frame_head d slot)
unfolding frame_head
head_small d legal Slot.Design = design-small d legal
head_small d legal (Slot.Initial index) = (omega arith, big-endian-bytes 2 index)
head_small d legal (Slot.Offset table index place) =
    (omega arith, bytes-append (big_endian 1 table) (big_endian 2 index) (big-endian-bytes 1 table) (big-endian-bytes 2 index))
head_small d legal (Slot.End before) = (omega arith, big-endian-bytes 2 before)

module _ (d : Design) (slot : Slot) (initial : List ℕ) (offsets : List ℤ) where
  pub frame-length : length (frame_of d slot initial offsets) ≡ length (frame_head d slot) + entry_width slot
  unfolding frame_of
  frame-length =
      let number = entry_number slot initial offsets in
      omega (arith, length-append (frame_head d slot) (big_endian (entry_width slot) number), big-endian-length (entry_width slot) number)

  pub frame_small : Legal d → Bytes (frame_of d slot initial offsets)
  unfolding frame_of
  frame_small legal = bytes-append (frame_head d slot) _ (head_small d legal slot) (big-endian-bytes (entry_width slot) _)

-- An entry that fits its bytes is a number below what they hold.
pub entry_lt : (slot : Slot) (initial : List ℕ) (offsets : List ℤ) → entry_fits slot initial offsets ≡ true
    → entry_number slot initial offsets < 2 ^ (8 * entry_width slot)
unfolding entry_fits entry_number entry_width fits
entry_lt Slot.Design initial offsets h = omega arith
entry_lt (Slot.Initial index) initial offsets h = ltb-true _ _ h
entry_lt (Slot.Offset table index place) initial offsets h = complement-lt entry_bytes (get_or offsets place (pos 0)) (omega arith) h
entry_lt (Slot.End before) initial offsets h = omega arith
