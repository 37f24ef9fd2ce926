-- Document 01, "A design": how an input word is cut up.
use Rattle.std.specs.Prelude.{List, ℕ, ◌+◌, ◌-◌, ◌/◌, ◌%◌, ◌^◌, get_or, take}
use Rattle.general.specs.Below.{sum_below}
use Rattle.values.specs.declared.rows.Row.{Row}
use Rattle.values.specs.Rows.{row_of}
use Rattle.design.specs.declared.Pair.{Pair}
use Rattle.design.specs.declared.Design.{Design}

-- "m pairs (a_i, b_i), i from 0"; "Pairs beyond m are not read"
unfoldable pub tables : Design → List Pair
tables d = take d.m d.pairs

-- A pair of no bits, which stands where there is none
abbrev pub no_pair : Pair
no_pair = record { a = 0; b = 0 }

unfoldable pub pair_at : Design → ℕ → Pair
pair_at d i = get_or (tables d) i no_pair

abbrev pub a_of : Design → ℕ → ℕ
a_of d i = (pair_at d i).a

abbrev pub b_of : Design → ℕ → ℕ
b_of d i = (pair_at d i).b

abbrev pub row : Design → Row
row d = row_of d.kind

-- "a table entry P = q + g"
abbrev pub fraction_bits : Design → ℕ
fraction_bits d = d.q + d.g

-- "0 ≤ Y < 2^(P+2)": the limit on sums, in table units
abbrev pub sum_limit : Design → ℕ
sum_limit d = 2 ^ (fraction_bits d + 2)

-- "p_0 = 0 and p_(i+1) = p_i + b_i"
unfoldable pub position : Design → ℕ → ℕ
position d i = sum_below i (b_of d)

-- "Word A is floor(x / 2^(w-alpha))"
unfoldable pub initial_word : Design → ℕ → ℕ
initial_word d x = x / 2 ^ (d.w - d.alpha)

-- "A_i is floor(x / 2^(w-a_i)), the top a_i bits of x"
unfoldable pub segment_word : Design → ℕ → ℕ → ℕ
segment_word d i x = x / 2 ^ (d.w - a_of d i)

-- "B_i is floor(x / 2^(p_i)) mod 2^(b_i)"
unfoldable pub offset_word : Design → ℕ → ℕ → ℕ
offset_word d i x = x / 2 ^ position d i % 2 ^ b_of d i
