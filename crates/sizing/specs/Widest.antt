-- What inner calls promise each other: the bits of a table's offsets by the widest of them. That these are the bits of all is proved.
use Rattle.std.specs.Prelude.{ℕ, ◌-◌, ◌^◌, ltb, pos}
use Rattle.general.specs.Below.{first_from}
use Rattle.entries.specs.Entries.{magnitude}
use Rattle.sizing.specs.Width.{most_bits}

-- T of the largest |j|, 2^b - 1, and of the largest Hi + Lo of the table's segments, which is `slopes`
unfoldable pub widest_offset : ℕ → ℕ → ℕ → ℕ
widest_offset slopes b p = magnitude slopes p (pos (2 ^ b - 1))

-- The fewest bits whose two's complement range holds T, and so -1 - T
unfoldable pub bits_for : ℕ → ℕ
bits_for T = first_from 1 (most_bits - 1) (λ n. ltb T (2 ^ (n - 1)))
