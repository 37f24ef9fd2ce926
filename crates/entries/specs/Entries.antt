-- Document 01, "Filling": what the fill writes, entry by entry.
use Rattle.std.specs.Prelude.{Bool, cond, not, ℕ, ◌+◌, ◌-◌, ◌*◌, ◌/◌, ◌^◌, ℤ, pos, negsuc, nat_abs}
use Rattle.std.proofs.Math.IntN.{sub_ℕ}
use Rattle.std.specs.Int.Signed.{non_neg}
use Rattle.values.specs.Floor.{floor_value}
use Rattle.values.specs.Slopes.{segment_start, segment_end, hi, lo}
use Rattle.design.specs.declared.Design.{Design}
use Rattle.design.specs.Cut.{a_of, b_of, row, fraction_bits, position}

-- "L(X)", for the kind and widths of a design
unfoldable pub value_at : Design → ℕ → ℕ
value_at d X = floor_value (row d) d.w (fraction_bits d) X

-- "with s = 2^w + A·2^(w-alpha), e = s + 2^(w-alpha) - 1 and M = L(s) + L(e)"
unfoldable pub end_values : Design → ℕ → ℕ
end_values d A = value_at d (segment_start d.w d.alpha A) + value_at d (segment_end d.w d.alpha A)

-- "Initial entry A: .. floor((M+1+m)/2) + 2^(g-1)"
unfoldable pub initial_at : Design → ℕ → ℕ
initial_at d A = (end_values d A + 1 + d.m) / 2 + 2 ^ (d.g - 1)

-- Hi and Lo of the segment that a value A of A_i names in table i
unfoldable pub hi_at : Design → ℕ → ℕ → ℕ
hi_at d i A = hi (row d) d.w (fraction_bits d) (segment_start d.w (a_of d i) A)

unfoldable pub lo_at : Design → ℕ → ℕ → ℕ
lo_at d i A = lo (row d) d.w (fraction_bits d) (segment_end d.w (a_of d i) A)

-- "j = 2·B_i + 1 - 2^(b_i), an odd number of either sign"
unfoldable pub odd_number : ℕ → ℕ → ℤ
odd_number b B = sub_ℕ (2 * B + 1) (2 ^ b)

-- "T = floor((Hi+Lo)·|j|·2^(p_i) / 2^18)", `slopes` being Hi + Lo
unfoldable pub magnitude : ℕ → ℕ → ℤ → ℕ
magnitude slopes p j = slopes * nat_abs j * 2 ^ p / 2 ^ 18

-- "where j has the function's sign"; j is odd, since b_i is not 0, so it is never 0
unfoldable pub same_sign : Bool → ℤ → Bool
same_sign rising j = cond rising (non_neg j) (not (non_neg j))

-- "The entry is T where j has the function's sign, and -1 - T where it has the other." (`negsuc T` is -1 - T.)
unfoldable pub signed : Bool → ℤ → ℕ → ℤ
signed rising j T = cond (same_sign rising j) (pos T) (negsuc T)

-- The offset of B, by Hi + Lo of its segment, b and p of its table and the function's sign
unfoldable pub offset_of : ℕ → ℕ → ℕ → Bool → ℕ → ℤ
offset_of slopes b p rising B = signed rising (odd_number b B) (magnitude slopes p (odd_number b B))

-- The offset of A_i = A and B_i = B in table i
unfoldable pub offset_at : Design → ℕ → ℕ → ℕ → ℤ
offset_at d i A B = offset_of (hi_at d i A + lo_at d i A) (b_of d i) (position d i) (row d).rising B
