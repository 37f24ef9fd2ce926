-- Document 01, "Functions and their exact values": c, k and sign of each kind. `rising` is the sign +.
use Rattle.std.specs.Prelude.{true, false, List, [], ◌∷◌, ℕ, ◌*◌, ◌^◌, ◌≤◌, length, get_or}
use Rattle.values.specs.declared.rows.Row.{Row}

-- kind 0, reciprocal, [1,2); 1, root, [1,2); 2, root, [2,4); 3, reciprocal root, [1,2); 4, reciprocal root, [2,4)
unfoldable pub rows : List Row
rows =
    record { c = 1; k = 1; rising = false } ∷
    record { c = 1; k = 2; rising = true } ∷
    record { c = 2; k = 2; rising = true } ∷
    record { c = 1; k = 2; rising = false } ∷
    record { c = 2; k = 2; rising = false } ∷ []

-- How many kinds there are
unfoldable pub kinds : ℕ
unfolding rows
kinds = length rows

-- The row of a kind. No call reads past the table: such a kind is turned down first.
unfoldable pub row_of : ℕ → Row
unfolding rows
row_of kind = get_or rows kind (record { c = 0; k = 0; rising = false })

-- What the mathematics above uses of a row: the argument c·X / 2^w lies in [1, 2^k).
pub record Lawful (row : Row) : Type 0 where
  pub c_pos : 1 ≤ row.c
  pub k-pos : 1 ≤ row.k
  pub domain : 2 * row.c ≤ 2 ^ row.k
