-- Document 01, "What is turned down, by place", 5 to 8: the limits of a cut, and how large they let a set get. Other definitions cite these
-- names; only that a design has room for 4 pairs stands apart.
use Rattle.std.specs.Prelude.{ℕ, ◌*◌, ◌^◌}

-- "alpha not 2..13"
abbrev pub least_initial_bits : ℕ
least_initial_bits = 2

abbrev pub most_initial_bits : ℕ
most_initial_bits = 13

-- "m not 1..4"
abbrev pub most_tables : ℕ
most_tables = 4

-- "b_i not 1..8, or a_i+b_i over 12"
abbrev pub most_offset_bits : ℕ
most_offset_bits = 8

abbrev pub most_table_bits : ℕ
most_table_bits = 12

-- What follows: a set has no more initial entries, offsets in a table, and offsets in all than these.
abbrev pub most_initial : ℕ
most_initial = 2 ^ most_initial_bits

abbrev pub most_in_table : ℕ
most_in_table = 2 ^ most_table_bits

abbrev pub most_offsets : ℕ
most_offsets = most_tables * most_in_table
