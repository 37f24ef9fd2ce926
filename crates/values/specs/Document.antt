-- Document 01, "Functions and their exact values", in its own words for each kind with its c, and document 02's nearest and whole values in
-- the same form.
use Rattle.std.specs.Prelude.{◌≡◌, true, ◌⊎◌, ◌↔◌, [], ◌∷◌, map, ℕ, ◌+◌, ◌-◌, ◌*◌, ◌^◌, ◌≤◌, ◌<◌}
use Rattle.values.specs.Rows.{kinds, row_of}
use Rattle.values.specs.Exact.{number_side, value_side, Greatest}
use Rattle.values.specs.Floor.{floor_value, is_whole}
use Rattle.values.specs.Inputs.{InRange}
use Rattle.values.specs.Faithful.{Faithful, Nearest}

-- The two sides of the one inequality (AtMost, LessThan, AtLeast, MoreThan) are those that the document writes where it says L, faithful
-- and the second bound: n stands for its n, y-1, y+1, Y'-R and Y'+R, and s for P, q and P+18. Nearest has 2y-1 and 2y+1, and q+1.
pub record SidesSaid (kind w s X n : ℕ) : Type 0 where
  -- "kind 0: (y-1)·X < 2^(q+w) < (y+1)·X"
  pub reciprocal : kind ≡ 0 → (number_side (row_of kind) w X n ≡ n * X) × (value_side (row_of kind) w s X ≡ 2 ^ (s + w))
  -- "kinds 1, 2: (y-1)²·2^w < c·X·4^q < (y+1)²·2^w"
  pub root : (kind ≡ 1) ⊎ (kind ≡ 2)
      → (number_side (row_of kind) w X n ≡ n ^ 2 * 2 ^ w) × (value_side (row_of kind) w s X ≡ (row_of kind).c * X * 4 ^ s)
  -- "kinds 3, 4: (y-1)²·c·X < 4^q·2^w < (y+1)²·c·X"
  pub reciprocal-root : (kind ≡ 3) ⊎ (kind ≡ 4)
      → (number_side (row_of kind) w X n ≡ n ^ 2 * ((row_of kind).c * X)) × (value_side (row_of kind) w s X ≡ 4 ^ s * 2 ^ w)

-- "E(X) is the exact value in table units, L(X) its floor"
pub record FloorSaid (kind w P X : ℕ) : Type 0 where
  -- "kind 0: L is the greatest n with n·X ≤ 2^(P+w)"
  pub reciprocal : kind ≡ 0 → Greatest (λ n. n * X ≤ 2 ^ (P + w)) (floor_value (row_of kind) w P X)
  -- "kinds 1, 2: the greatest n with n²·2^w ≤ c·X·4^P"
  pub root : (kind ≡ 1) ⊎ (kind ≡ 2) → Greatest (λ n. n ^ 2 * 2 ^ w ≤ (row_of kind).c * X * 4 ^ P) (floor_value (row_of kind) w P X)
  -- "kinds 3, 4: the greatest n with n²·c·X ≤ 4^P·2^w"
  pub reciprocal-root : (kind ≡ 3) ⊎ (kind ≡ 4)
      → Greatest (λ n. n ^ 2 * ((row_of kind).c * X) ≤ 4 ^ P * 2 ^ w) (floor_value (row_of kind) w P X)

-- The floor value is n, and it is told that E(X) is.
abbrev pub ToldWhole : (kind w P X n : ℕ) → Type 0
ToldWhole kind w P X n = (floor_value (row_of kind) w P X ≡ n) × (is_whole (row_of kind) w P X ≡ true)

-- Document 02, A7: "The floor value also tells whether E(X) is that whole number." That is told exactly where document 01's line for L holds
-- with = for ≤.
pub record WholeSaid (kind w P X n : ℕ) : Type 0 where
  -- "kind 0: .. n·X ≤ 2^(P+w)"
  pub reciprocal : kind ≡ 0 → ToldWhole kind w P X n ↔ (n * X ≡ 2 ^ (P + w))
  -- "kinds 1, 2: .. n²·2^w ≤ c·X·4^P"
  pub root : (kind ≡ 1) ⊎ (kind ≡ 2) → ToldWhole kind w P X n ↔ (n ^ 2 * 2 ^ w ≡ (row_of kind).c * X * 4 ^ P)
  -- "kinds 3, 4: .. n²·c·X ≤ 4^P·2^w"
  pub reciprocal-root : (kind ≡ 3) ⊎ (kind ≡ 4) → ToldWhole kind w P X n ↔ (n ^ 2 * ((row_of kind).c * X) ≡ 4 ^ P * 2 ^ w)

-- The exact value between two numbers, as document 01 writes it for each kind with its c: `◌≺◌` is < for faithful and ≤ for the second
-- bound and for nearest, s is q, P + 18 or q + 1, and low and high are y-1 and y+1, Y'-R and Y'+R, or 2y-1 and 2y+1.
module _ (◌≺◌ : ℕ → ℕ → Type 0) where
  infix 50 ◌≺◌
  pub record Between (kind c w s X low high : ℕ) : Type 0 where
    -- "kind 0: (y-1)·X < 2^(q+w) < (y+1)·X", "kind 0: (Y'-R)·X ≤ 2^(P+18+w) ≤ (Y'+R)·X"
    pub reciprocal : kind ≡ 0 → (low * X ≺ 2 ^ (s + w)) × (2 ^ (s + w) ≺ high * X)
    -- "kinds 1, 2: (y-1)²·2^w < c·X·4^q < (y+1)²·2^w", "kinds 1, 2: (Y'-R)²·2^w ≤ c·X·4^(P+18) ≤ (Y'+R)²·2^w"
    pub root : (kind ≡ 1) ⊎ (kind ≡ 2) → (low ^ 2 * 2 ^ w ≺ c * X * 4 ^ s) × (c * X * 4 ^ s ≺ high ^ 2 * 2 ^ w)
    -- "kinds 3, 4: (y-1)²·c·X < 4^q·2^w < (y+1)²·c·X", "kinds 3, 4: (Y'-R)²·c·X ≤ 4^(P+18)·2^w ≤ (Y'+R)²·c·X"
    pub reciprocal-root : (kind ≡ 3) ⊎ (kind ≡ 4)
        → (low ^ 2 * (c * X) ≺ 4 ^ s * 2 ^ w) × (4 ^ s * 2 ^ w ≺ high ^ 2 * (c * X))

-- What is said of an output word y
pub record WordSaid (kind w q X y : ℕ) : Type 0 where
  -- "An output word y ≥ 1 is **faithful** when it is strictly less than one output unit from the exact value"
  pub faithful : Faithful (row_of kind) w q X y ↔ ((1 ≤ y) × Between ◌<◌ kind (row_of kind).c w q X (y - 1) (y + 1))
  -- Document 02, A1: "nearest (within half an output unit of the exact value, the half included)". The same lines with y-1/2 and y+1/2,
  -- both sides times 2^k, so that the halves are whole: (2y-1)·X ≤ 2·2^(q+w) ≤ (2y+1)·X, and for roots (2y-1)²·2^w ≤ 4·c·X·4^q ..
  pub nearest : Nearest (row_of kind) w q X y
      ↔ ((1 ≤ y) × Between ◌≤◌ kind (row_of kind).c w (q + 1) X (2 * y - 1) (2 * y + 1))

-- All of it, for every width, every number of fraction bits, and X of an input word; c by kind as in the document's table
pub record Document : Type 0 where
  pub c : map (λ kind. (row_of kind).c) (0 ∷ 1 ∷ 2 ∷ 3 ∷ 4 ∷ []) ≡ 1 ∷ 1 ∷ 2 ∷ 1 ∷ 2 ∷ []
  pub sides : (kind w s X n : ℕ) → SidesSaid kind w s X n
  pub floor : (kind w P X : ℕ) → InRange w X → FloorSaid kind w P X
  pub whole : (kind w P X n : ℕ) → InRange w X → WholeSaid kind w P X n
  pub word : (kind w q X y : ℕ) → kind < kinds → WordSaid kind w q X y
