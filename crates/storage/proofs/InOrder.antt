-- The lines of a set are those of the document's list, in its order.
use mathlib.Core.Path.{◌≡◌, refl, ap₂, ◌∙◌}
use mathlib.Core.List.{List, ◌∷◌, ◌++◌, append-nil}
use Prim.Native.Nat.{ℕ, zero, suc, ◌+◌, ◌-◌, ◌≤◌, ◌<◌}
use native.Mathlib.Nat.{add-zero, le_refl, le_trans}
use native.Mathlib.Omega.{arith}
use Rattle.general.specs.Below.{sum_below, list_below}
use Rattle.general.proofs.ListLaws.{list-add, list-congruence}
use Rattle.design.specs.declared.Design.{Design}
use Rattle.design.specs.Stored.{initial_count, offset_count, table_start, offset_total}
use Rattle.encoding.specs.Bytes.{big_endian}
use Rattle.encoding.specs.Encode.{line_of}
use Rattle.encoding.specs.DesignBytes.{design_bytes}
use Rattle.lines.specs.Slots.{line_count, offset_slot}
use Rattle.lines.specs.Lines.{frame_head, entry_width, entry_number, frame_of, line_at, set_lines}
use Rattle.lines.proofs.SlotLaws.{slot-first, slot-initial, slot-offset, slot-last}
use Rattle.lines.proofs.TableLaws.{starts-rise, table-of}
use Rattle.storage.specs.Sets.{TableSet, line_in, lines_in}
use Rattle.storage.specs.File.{initial_line, offset_line, offset_lines_below, last_line, file_of}

module _ (t : TableSet) where
  abbrev d : Design
  d = t.design

  -- Each line is the one that the list has in its place.
  first-is : line_in t 0 ≡ line_of (design_bytes d)
  unfolding line_at frame_of frame_head entry_width big_endian
  first-is = rw (slot-first d, append-nil (design_bytes d))

  initial-is : (index : ℕ) → index < initial_count d → line_in t (1 + index) ≡ initial_line t index
  unfolding line_at frame_of frame_head entry_width entry_number initial_line
  initial-is index h = rw (slot-initial d (1 + index) index (omega arith) h)

  -- where a table's offsets lie
  in_table : (table index : ℕ) → index < offset_count d table → table_start d table + index < table_start d (suc table)
  unfolding table_start sum_below
  in_table table index h = omega arith

  in_all : (table index : ℕ) → table < d.m → index < offset_count d table → table_start d table + index < offset_total d
  unfolding offset_total
  in_all table index among h = le_trans (in_table table index h) (starts-rise d (suc table) d.m among)

  offset-is : (table index : ℕ) → table < d.m → index < offset_count d table
      → line_in t (1 + initial_count d + (table_start d table + index)) ≡ offset_line t table index
  unfolding line_at frame_of frame_head entry_width entry_number offset_slot offset_line
  offset-is table index among h =
      let place = table_start d table + index in
      let found = table-of d table place among (omega arith) (in_table table index h) in
      let left : place - table_start d table ≡ index = omega arith in
      rw (slot-offset d (1 + initial_count d + place) place (omega arith) (in_all table index among h), found, left)

  last-is : line_in t (1 + initial_count d + offset_total d) ≡ last_line (1 + initial_count d + offset_total d)
  unfolding line_at frame_of frame_head entry_width big_endian last_line
  last-is = let n = 1 + initial_count d + offset_total d in rw (slot-last d n (omega arith), append-nil (4 ∷ big_endian 2 n))

  -- The offsets' lines, table by table
  offsets_are : (n : ℕ) → n ≤ d.m → list_below (table_start d n) (λ p. line_in t (1 + initial_count d + p)) ≡ offset_lines_below t n
  unfolding offset_lines_below list_below table_start sum_below
  offsets_are zero h = refl
  offsets_are (suc n) h =
      list-add (λ p. line_in t (1 + initial_count d + p)) (table_start d n) (offset_count d n)
      ∙ ap₂ (λ (front back : List (List ℕ)). front ++ back) (offsets_are n (omega arith))
      (list-congruence _ (offset_line t n) (offset_count d n) (λ index k. offset-is n index h k))

  -- All lines
  pub in_order : lines_in t ≡ file_of t
  unfolding set_lines line_count file_of offset_total list_below
  in_order =
      let n = 1 + initial_count d in
      let count : initial_count d + table_start d d.m + 2 ≡ n + table_start d d.m + 1 = omega arith in
      rw (
        count,
        list-add (line_in t) (n + table_start d d.m) 1,
        list-add (line_in t) n (table_start d d.m),
        list-add (line_in t) 1 (initial_count d),
        add-zero (n + table_start d d.m),
        first-is,
        list-congruence (λ k. line_in t (1 + k)) (initial_line t) (initial_count d) initial-is,
        offsets_are d.m (le_refl _),
        last-is,
      )
