-- Document 01, "Bits, lines and the report": the lines of a set as the document lists them, "Frames, in this order".
use Rattle.std.specs.Prelude.{List, [], ◌∷◌, ◌++◌, ℕ, zero, suc, ◌+◌, get_or, pos}
use Rattle.general.specs.Below.{list_below}
use Rattle.design.specs.Stored.{initial_count, offset_count, table_start, offset_total}
use Rattle.encoding.specs.Bytes.{big_endian, entry_bytes, complement}
use Rattle.encoding.specs.Encode.{line_of}
use Rattle.encoding.specs.DesignBytes.{design_bytes}
use Rattle.storage.specs.Sets.{TableSet}

-- "02: index (2 bytes), initial entry (3 bytes)"
unfoldable pub initial_line : TableSet → ℕ → List ℕ
initial_line t index = line_of (2 ∷ big_endian 2 index ++ big_endian entry_bytes (get_or t.initial index 0))

-- "03: table number (1), index (2), offset (3, two's complement)"
unfoldable pub offset_line : TableSet → ℕ → ℕ → List ℕ
offset_line t table index =
    let offset = get_or t.offsets (table_start t.design table + index) (pos 0) in
    line_of (3 ∷ big_endian 1 table ++ big_endian 2 index ++ big_endian entry_bytes (complement entry_bytes offset))

-- "table 0 first, index rising from 0 in each table": the lines of the tables below n
unfoldable pub offset_lines_below : TableSet → ℕ → List (List ℕ)
offset_lines_below t zero = []
offset_lines_below t (suc n) = offset_lines_below t n ++ list_below (offset_count t.design n) (offset_line t n)

-- "04: number of frames before it (2 bytes)"
unfoldable pub last_line : ℕ → List ℕ
last_line before = line_of (4 ∷ big_endian 2 before)

unfoldable pub file_of : TableSet → List (List ℕ)
file_of t =
    let d = t.design in
    (line_of (design_bytes d) ∷ [])
    ++ list_below (initial_count d) (initial_line t)
    ++ offset_lines_below t d.m
    ++ (last_line (1 + initial_count d + offset_total d) ∷ [])
