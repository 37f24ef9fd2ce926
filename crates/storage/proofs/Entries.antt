-- An entry that is stored is the entry that is written, and the other way round.
use mathlib.Core.Path.{◌≡◌, refl}
use mathlib.Core.Bool.{true}
use mathlib.Core.List.{List}
use Prim.Native.Nat.{ℕ, ◌*◌, ◌^◌, ◌<◌}
use native.Mathlib.Omega.{arith}
use lib.ListN.{length}
use lib.Seq.{get_or-set_same}
use lib.IntN.{ℤ, pos}
use borrow.Author.Tests.{lt-ltb}
use Rattle.encoding.specs.Bytes.{entry_bytes, fits, from_complement}
use Rattle.encoding.proofs.ComplementBack.{complement-fits, complement-again}
use Rattle.lines.specs.declared.Slot.{Slot}
use Rattle.lines.specs.Lines.{entry_width, entry_number, entry_fits}
use Rattle.lines.specs.Inputs.{SlotIn}
use Rattle.reading.specs.ReadLine.{initial_stored, offsets_stored}

-- A number that fits the entry's bytes is written again as it was read,
pub stored-number : (slot : Slot) (v : ℕ) (initial : List ℕ) (offsets : List ℤ) → SlotIn slot (length initial) (length offsets)
    → v < 2 ^ (8 * entry_width slot) → entry_number slot (initial_stored slot v initial) (offsets_stored slot v offsets) ≡ v
unfolding entry_number entry_width initial_stored offsets_stored
stored-number Slot.Design v initial offsets within h = omega arith
stored-number (Slot.Initial index) v initial offsets within h = get_or-set_same initial index v 0 within
stored-number (Slot.Offset table index place) v initial offsets within h =
    rw (get_or-set_same offsets place (from_complement entry_bytes v) (pos 0) within) (complement-again entry_bytes v (omega arith) h)
stored-number (Slot.End before) v initial offsets within h = omega arith

-- and fits.
pub stored-fits : (slot : Slot) (v : ℕ) (initial : List ℕ) (offsets : List ℤ) → SlotIn slot (length initial) (length offsets)
    → v < 2 ^ (8 * entry_width slot) → entry_fits slot (initial_stored slot v initial) (offsets_stored slot v offsets) ≡ true
unfolding entry_fits entry_width initial_stored offsets_stored fits
stored-fits Slot.Design v initial offsets within h = refl
stored-fits (Slot.Initial index) v initial offsets within h =
    rw (get_or-set_same initial index v 0 within) (lt-ltb v (2 ^ (8 * entry_bytes)) h)
stored-fits (Slot.Offset table index place) v initial offsets within h =
    rw (get_or-set_same offsets place (from_complement entry_bytes v) (pos 0) within) (complement-fits entry_bytes v (omega arith) h)
stored-fits (Slot.End before) v initial offsets within h = refl
