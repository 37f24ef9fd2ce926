-- Document 01, "Bits, lines and the report": "Frames, in this order". What each line of a set holds; lines count from 0.
use Rattle.std.specs.Prelude.{cond, ℕ, suc, ◌+◌, ◌-◌, leb, eqb}
use Rattle.general.specs.Below.{sum_below}
use Rattle.design.specs.declared.Design.{Design}
use Rattle.design.specs.Limits.{most_initial, most_offsets}
use Rattle.design.specs.Stored.{initial_count, table_start, offset_total}
use Rattle.lines.specs.declared.Slot.{Slot}

-- How many lines a set has: the design's, one for each entry, and the last
unfoldable pub line_count : Design → ℕ
line_count d = initial_count d + offset_total d + 2

-- No legal design's sets have more.
abbrev pub most_lines : ℕ
most_lines = most_initial + most_offsets + 2

-- "table 0 first": the table of the offset at a place among all of them. The tables before it are those that end there or earlier.
unfoldable pub table_of : Design → ℕ → ℕ
table_of d place = sum_below d.m (λ i. cond (leb (table_start d (suc i)) place) 1 0)

-- "index rising from 0 in each table"
unfoldable pub offset_slot : Design → ℕ → Slot
offset_slot d place = Slot.Offset (table_of d place) (place - table_start d (table_of d place)) place

-- The design, the initial entries "index rising from 0", the offsets, and at the end the "number of frames before it"
unfoldable pub slot_of : Design → ℕ → Slot
slot_of d n =
    cond (eqb n 0) Slot.Design
    (cond (leb n (initial_count d)) (Slot.Initial (n - 1))
    (cond (leb n (initial_count d + offset_total d)) (offset_slot d (n - 1 - initial_count d))
    (Slot.End n)))
