-- Document 01, "A design": the entries that a set stores, and where an input word's offsets lie among them.
use Rattle.std.specs.Prelude.{ℕ, ◌+◌, ◌*◌, ◌^◌, ℤ}
use Rattle.general.specs.Below.{sum_below}
use Rattle.design.specs.declared.Design.{Design}
use Rattle.design.specs.Cut.{a_of, b_of}

-- "2^alpha initial entries and, for each i, 2^(a_i+b_i) offsets"
unfoldable pub initial_count : Design → ℕ
initial_count d = 2 ^ d.alpha

-- What a segment of table i stores: one offset for each B_i, 2^(b_i) in all. The next three say which of them B reads, how B's offset
-- comes from it, and which B it belongs to.
unfoldable pub stored_count : Design → ℕ → ℕ
stored_count d i = 2 ^ b_of d i

unfoldable pub stored_index : Design → ℕ → ℕ → ℕ
stored_index d i B = B

unfoldable pub offset_from : Design → ℕ → ℕ → ℤ → ℤ
offset_from d i B stored = stored

unfoldable pub stored_word : Design → ℕ → ℕ → ℕ
stored_word d i index = index

-- Table i has 2^(a_i) segments.
unfoldable pub offset_count : Design → ℕ → ℕ
offset_count d i = 2 ^ a_of d i * stored_count d i

-- "Offset tables lie one after another, table 0 first": where table i begins, and after the last where they end.
unfoldable pub table_start : Design → ℕ → ℕ
table_start d i = sum_below i (offset_count d)

unfoldable pub offset_total : Design → ℕ
offset_total d = table_start d d.m

-- "entry A_i·2^(b_i) + B_i": the place among all offsets of one that segment A of table i stores, and of the one that A and B read
unfoldable pub stored_place : Design → ℕ → ℕ → ℕ → ℕ
stored_place d i A index = table_start d i + (A * stored_count d i + index)

unfoldable pub offset_place : Design → ℕ → ℕ → ℕ → ℕ
offset_place d i A B = stored_place d i A (stored_index d i B)
