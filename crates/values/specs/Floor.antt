-- Document 01: "E(X) is the exact value in table units, L(X) its floor", the greatest n that is at most E(X).
-- The proofs show that sentence of the definition below, which the checker can compute: n is at most E(X) exactly when
-- n^k ≤ floor((2^k)^P·num / den), and the greatest such n is found a binary digit at a time.
use Rattle.std.specs.Prelude.{Bool, cond, ℕ, zero, suc, ◌+◌, ◌/◌, ◌^◌, leb, eqb, pos}
use Rattle.values.specs.declared.rows.Row.{Row}
use Rattle.values.specs.declared.FloorValue.{FloorValue}
use Rattle.values.specs.Exact.{den, number_side, value_side}

-- The greatest number with k-th power at most `limit` that `root` and the b digits below it can form.
unfoldable pub root_from : ℕ → ℕ → ℕ → ℕ → ℕ
root_from k limit zero root = root
root_from k limit (suc b) root =
    root_from k limit b (cond (leb ((root + 2 ^ b) ^ k) limit) (root + 2 ^ b) root)

-- floor(E(X)^k): n is at most E(X) exactly when n^k is at most this.
unfoldable pub scaled : Row → ℕ → ℕ → ℕ → ℕ
scaled row w P X = value_side row w P X / den row w X

-- L(X). P + 1 binary digits are enough, since E(X) is below 2^(P+1).
unfoldable pub floor_value : Row → ℕ → ℕ → ℕ → ℕ
floor_value row w P X = root_from row.k (scaled row w P X) (P + 1) 0

-- Document 02, A7: "The floor value also tells whether E(X) is that whole number". L(X) is at most E(X); it is E(X) where the two sides are
-- equal.
unfoldable pub is_whole : Row → ℕ → ℕ → ℕ → Bool
is_whole row w P X = eqb (number_side row w X (floor_value row w P X)) (value_side row w P X)

-- Both, L(X) in table units
abbrev pub floor_and_whole : Row → ℕ → ℕ → ℕ → FloorValue
floor_and_whole row w P X = record { units = record { 0 = pos (floor_value row w P X) }; whole = is_whole row w P X }
