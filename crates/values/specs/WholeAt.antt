-- Document 02, A7: "At x = 0 many values are whole, and the budget still allows for a fraction." Of which kinds, for every width and every P;
-- and that elsewhere no value of a function that falls is whole.
use Rattle.std.specs.Prelude.{◌≡◌, true, false, [], ◌∷◌, map, ℕ, ◌^◌}
use Rattle.values.specs.declared.rows.Row.{Row}
use Rattle.values.specs.Rows.{row_of, Lawful}
use Rattle.values.specs.Floor.{is_whole}
use Rattle.values.specs.Inputs.{InRange}

pub record WholeAt (w P : ℕ) : Type 0 where
  -- At x = 0, where X = 2^w: of kinds 0, 1 and 3, and not of 2 and 4, whose argument there is 2
  pub at_zero : map (λ kind. is_whole (row_of kind) w P (2 ^ w)) (0 ∷ 1 ∷ 2 ∷ 3 ∷ 4 ∷ []) ≡ true ∷ true ∷ false ∷ true ∷ false ∷ []
  -- Elsewhere none of a function that falls, as kinds 0, 3 and 4 do. Of kinds 1 and 2 there are some: `whole-values` of the worked examples.
  pub elsewhere : (row : Row) → Lawful row → row.rising ≡ false → (X : ℕ) → InRange w X → is_whole row w P X ≡ true → X ≡ 2 ^ w
