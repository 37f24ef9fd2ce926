-- Document 01, "Evaluating and checking": the sum Y over any tables, whoever filled them, and the word.
use Rattle.std.specs.Prelude.{Bool, ◌||◌, List, ℕ, ◌/◌, ◌^◌, get_or, ℤ, pos, ◌+ℤ◌, nat_abs}
use Rattle.std.specs.Int.Signed.{lt_z, le_z}
use Rattle.general.specs.Below.{signed_sum}
use Rattle.design.specs.declared.Design.{Design}
use Rattle.design.specs.Cut.{sum_limit, initial_word, segment_word, offset_word}
use Rattle.design.specs.Stored.{offset_from, offset_place}

-- The offset of table i that x looks up, "entry A_i·2^(b_i) + B_i": it comes from what is stored at the place that A_i and B_i read
unfoldable pub offset_for : Design → List ℤ → ℕ → ℕ → ℤ
offset_for d offsets x i =
    offset_from d i (offset_word d i x) (get_or offsets (offset_place d i (segment_word d i x) (offset_word d i x)) (pos 0))

-- "Y is the initial entry plus the m offsets, each offset signed": from an initial entry, and from that which x looks up
abbrev pub sum_from : Design → ℕ → List ℤ → ℕ → ℤ
sum_from d entry offsets x = pos entry +ℤ signed_sum d.m (offset_for d offsets x)

unfoldable pub sum_at : Design → List ℕ → List ℤ → ℕ → ℤ
sum_at d initial offsets x = sum_from d (get_or initial (initial_word d x) 0) offsets x

-- not "0 ≤ Y < 2^(P+2)"
unfoldable pub sum_outside : Design → ℤ → Bool
sum_outside d Y = lt_z Y (pos 0) || le_z (pos (sum_limit d)) Y

-- "the word is floor(Y / 2^g)", for a Y that is not negative
unfoldable pub word_of : Design → ℤ → ℕ
word_of d Y = nat_abs Y / 2 ^ d.g

-- The word that x gets from these tables, where its sum is in range
unfoldable pub word_at : Design → List ℕ → List ℤ → ℕ → ℕ
word_at d initial offsets x = word_of d (sum_at d initial offsets x)
