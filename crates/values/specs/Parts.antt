-- The two sides of the one inequality without the power of two that they have in common, so that 64 bits hold them. Where the function
-- rises, the number's side has the factor 2^w and the value's side the factor 2^(k·s), and the smaller of the two is left out (subtraction
-- stops at 0). Where it falls, the parts are the sides.
use Rattle.std.specs.Prelude.{cond, ℕ, ◌+◌, ◌-◌, ◌*◌, ◌^◌}
use Rattle.values.specs.declared.rows.Row.{Row}

unfoldable pub divisor_part : Row → ℕ → ℕ → ℕ → ℕ
divisor_part row w s X = cond row.rising (2 ^ (w - row.k * s)) (row.c * X)

unfoldable pub number_part : Row → ℕ → ℕ → ℕ → ℕ → ℕ
number_part row w s X n = n ^ row.k * divisor_part row w s X

unfoldable pub value_part : Row → ℕ → ℕ → ℕ → ℕ
value_part row w s X = cond row.rising (row.c * X * 2 ^ (row.k * s - w)) (2 ^ (row.k * s + w))
