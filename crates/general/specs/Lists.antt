-- Lists: their sum, a property of each element, and a table while it is written.
use Rattle.std.specs.Prelude.{List, [], ◌∷◌, ◌++◌, ℕ, ◌+◌, length, take, drop}

unfoldable pub total : List ℕ → ℕ
total [] = 0
total (n ∷ ns) = n + total ns

-- Each element has the property.
abbrev pub All : {A : Type 0} → (A → Type 0) → List A → Type 0
All P [] = Unit {0}
All P (x ∷ xs) = P x × All P xs

-- The table with the entries written over it from place n on
unfoldable pub over : {A : Type 0} → List A → ℕ → List A → List A
over table n entries = take n table ++ entries ++ drop (n + length entries) table
