-- Document 01's inequalities between a whole number and the exact value, in one form for every kind and every unit.
-- The argument is c·X / 2^w, and the exact value's k-th power is the argument (sign +) or its reciprocal (sign -): num / den.
-- With s fraction bits, n is at most the exact value when n^k·den ≤ (2^k)^s·num. Table units have s = P, output units s = q,
-- halves of them s = q + 1, and 2^-18 table units s = P + 18.
use Rattle.std.specs.Prelude.{◌≡◌, cond, ℕ, ◌*◌, ◌^◌, ◌≤◌, ◌<◌}
use Rattle.values.specs.declared.rows.Row.{Row}

unfoldable pub num : Row → ℕ → ℕ → ℕ
num row w X = cond row.rising (row.c * X) (2 ^ w)

unfoldable pub den : Row → ℕ → ℕ → ℕ
den row w X = cond row.rising (2 ^ w) (row.c * X)

-- The two sides: one of the number n, one of the exact value at X with s fraction bits.
unfoldable pub number_side : Row → ℕ → ℕ → ℕ → ℕ
number_side row w X n = n ^ row.k * den row w X

unfoldable pub value_side : Row → ℕ → ℕ → ℕ → ℕ
value_side row w s X = (2 ^ row.k) ^ s * num row w X

-- n is at most, less than, at least, more than the exact value at X with s fraction bits
abbrev pub AtMost : Row → ℕ → ℕ → ℕ → ℕ → Type 0
AtMost row w s X n = number_side row w X n ≤ value_side row w s X

abbrev pub LessThan : Row → ℕ → ℕ → ℕ → ℕ → Type 0
LessThan row w s X n = number_side row w X n < value_side row w s X

abbrev pub AtLeast : Row → ℕ → ℕ → ℕ → ℕ → Type 0
AtLeast row w s X n = value_side row w s X ≤ number_side row w X n

abbrev pub MoreThan : Row → ℕ → ℕ → ℕ → ℕ → Type 0
MoreThan row w s X n = value_side row w s X < number_side row w X n

-- n is the exact value
abbrev pub Exactly : Row → ℕ → ℕ → ℕ → ℕ → Type 0
Exactly row w s X n = number_side row w X n ≡ value_side row w s X

-- n is the greatest number with the property
pub record Greatest (Property : ℕ → Type 0) (n : ℕ) : Type 0 where
  pub holds : Property n
  pub greatest : (m : ℕ) → Property m → m ≤ n
