-- Document 01, "Functions and their exact values": when an output word is faithful. Document 02, A1: when it is nearest, too low, too high.
use Rattle.std.specs.Prelude.{◌≡◌, Bool, ◌&&◌, ◌||◌, ◌⊎◌, ℕ, ◌+◌, ◌-◌, ◌*◌, ◌≤◌, ltb, leb, eqb}
use Rattle.values.specs.declared.rows.Row.{Row}
use Rattle.values.specs.Exact.{number_side, value_side, AtMost, LessThan, AtLeast, MoreThan}

-- "An output word y ≥ 1 is **faithful** when it is strictly less than one output unit from the exact value"; "y = 0 is not faithful".
pub record Faithful (row : Row) (w q X y : ℕ) : Type 0 where
  pub positive : 1 ≤ y
  pub low : LessThan row w q X (y - 1)
  pub high : MoreThan row w q X (y + 1)

-- The same as a test
unfoldable pub is_faithful : Row → ℕ → ℕ → ℕ → ℕ → Bool
is_faithful row w q X y =
    ltb 0 y && ltb (number_side row w X (y - 1)) (value_side row w q X) && ltb (value_side row w q X) (number_side row w X (y + 1))

-- "nearest (within half an output unit of the exact value, the half included)": half an output unit is one unit of q + 1 fraction bits,
-- and y output units are 2y of those. As faithful, it is said of y ≥ 1.
pub record Nearest (row : Row) (w q X y : ℕ) : Type 0 where
  pub positive : 1 ≤ y
  pub low : AtMost row w (q + 1) X (2 * y - 1)
  pub high : AtLeast row w (q + 1) X (2 * y + 1)

unfoldable pub is_nearest : Row → ℕ → ℕ → ℕ → ℕ → Bool
is_nearest row w q X y =
    ltb 0 y && leb (number_side row w X (2 * y - 1)) (value_side row w (q + 1) X)
    && leb (value_side row w (q + 1) X) (number_side row w X (2 * y + 1))

-- "too low": a whole output unit or more below the exact value; "a word 0 is too low".
abbrev pub TooLow : Row → ℕ → ℕ → ℕ → ℕ → Type 0
TooLow row w q X y = (y ≡ 0) ⊎ AtMost row w q X (y + 1)

unfoldable pub is_too_low : Row → ℕ → ℕ → ℕ → ℕ → Bool
is_too_low row w q X y = eqb y 0 || leb (number_side row w X (y + 1)) (value_side row w q X)

-- "too high": a whole output unit or more above it
pub record TooHigh (row : Row) (w q X y : ℕ) : Type 0 where
  pub positive : 1 ≤ y
  pub low : AtLeast row w q X (y - 1)
