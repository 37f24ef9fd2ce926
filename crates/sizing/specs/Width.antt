-- Document 02, A6: how many bits each offset of a table counts.
use Rattle.std.specs.Prelude.{Bool, ◌&&◌, ℕ, ◌-◌, ◌^◌, ℤ, pos, neg_ℤ}
use Rattle.std.specs.Int.Signed.{le_z, lt_z}
use Rattle.general.specs.Below.{every_below, first_from}
use Rattle.design.specs.declared.Design.{Design}
use Rattle.design.specs.Cut.{a_of, b_of}
use Rattle.entries.specs.Entries.{offset_at}

-- "two's complement range": n bits hold the numbers from -2^(n-1) up, below 2^(n-1).
unfoldable pub holds : ℕ → ℤ → Bool
holds n z = le_z (neg_ℤ (pos (2 ^ (n - 1)))) z && lt_z z (pos (2 ^ (n - 1)))

-- "holds every offset that the fill writes in it": that of each A_i and each B_i in table i
unfoldable pub holds_all : Design → ℕ → ℕ → Bool
holds_all d i n = every_below (2 ^ a_of d i) (λ A. every_below (2 ^ b_of d i) (λ B. holds n (offset_at d i A B)))

-- An offset is a number of 32 bits, so no more need be tried.
abbrev pub most_bits : ℕ
most_bits = 32

-- "A table's offsets count the fewest bits, at least 1, whose two's complement range holds every offset that the fill writes in it."
unfoldable pub offset_bits : Design → ℕ → ℕ
offset_bits d i = first_from 1 (most_bits - 1) (holds_all d i)
