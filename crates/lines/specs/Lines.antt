-- Document 01, "Bits, lines and the report": the frames of a set, what an entry is refused for in them, and its lines.
use Rattle.std.specs.Prelude.{Bool, true, false, List, ◌∷◌, ◌++◌, ℕ, leb, get_or, ℤ, pos}
use Rattle.general.specs.Below.{some_below, list_below}
use Rattle.design.specs.declared.Design.{Design}
use Rattle.design.specs.Cut.{sum_limit}
use Rattle.design.specs.Stored.{initial_count}
use Rattle.encoding.specs.Bytes.{big_endian, entry_bytes, complement, fits, fits_signed}
use Rattle.encoding.specs.Encode.{line_of}
use Rattle.encoding.specs.DesignBytes.{design_bytes}
use Rattle.lines.specs.declared.Slot.{Slot}
use Rattle.lines.specs.Slots.{line_count, slot_of}

-- The bytes of a frame before its entry: "02: index (2 bytes)", "03: table number (1), index (2)", "04: number of frames before it
-- (2 bytes)"; all of 01.
unfoldable pub frame_head : Design → Slot → List ℕ
frame_head d Slot.Design = design_bytes d
frame_head d (Slot.Initial index) = 2 ∷ big_endian 2 index
frame_head d (Slot.Offset table index place) = 3 ∷ big_endian 1 table ++ big_endian 2 index
frame_head d (Slot.End before) = 4 ∷ big_endian 2 before

-- "initial entry (3 bytes)", "offset (3, two's complement)": how many bytes the entry takes, and the number in them
unfoldable pub entry_width : Slot → ℕ
entry_width Slot.Design = 0
entry_width (Slot.Initial index) = entry_bytes
entry_width (Slot.Offset table index place) = entry_bytes
entry_width (Slot.End before) = 0

unfoldable pub entry_number : Slot → List ℕ → List ℤ → ℕ
entry_number Slot.Design initial offsets = 0
entry_number (Slot.Initial index) initial offsets = get_or initial index 0
entry_number (Slot.Offset table index place) initial offsets = complement entry_bytes (get_or offsets place (pos 0))
entry_number (Slot.End before) initial offsets = 0

-- 18: whether the "entry .. fit[s] its 3 bytes"
unfoldable pub entry_fits : Slot → List ℕ → List ℤ → Bool
entry_fits Slot.Design initial offsets = true
entry_fits (Slot.Initial index) initial offsets = fits entry_bytes (get_or initial index 0)
entry_fits (Slot.Offset table index place) initial offsets = fits_signed entry_bytes (get_or offsets place (pos 0))
entry_fits (Slot.End before) initial offsets = true

-- Document 02, A4, 23: "an initial entry is 2^(P+2) or more"
abbrev pub initial_over : Design → ℕ → Bool
initial_over d entry = leb (sum_limit d) entry

-- of some of a set's initial entries,
unfoldable pub some_over : Design → List ℕ → Bool
some_over d initial = some_below (initial_count d) (λ index. initial_over d (get_or initial index 0))

-- and of a line, whose entry is given as the number in its bytes. Offsets are not concerned.
unfoldable pub entry_over : Design → Slot → ℕ → Bool
entry_over d Slot.Design number = false
entry_over d (Slot.Initial index) number = initial_over d number
entry_over d (Slot.Offset table index place) number = false
entry_over d (Slot.End before) number = false

-- A frame without its sum byte
unfoldable pub frame_of : Design → Slot → List ℕ → List ℤ → List ℕ
frame_of d slot initial offsets = frame_head d slot ++ big_endian (entry_width slot) (entry_number slot initial offsets)

-- Line n of a set, and all lines of a set in order
unfoldable pub line_at : Design → List ℕ → List ℤ → ℕ → List ℕ
line_at d initial offsets n = line_of (frame_of d (slot_of d n) initial offsets)

unfoldable pub set_lines : Design → List ℕ → List ℤ → List (List ℕ)
set_lines d initial offsets = list_below (line_count d) (line_at d initial offsets)
