-- Refusals 1 to 10: what fill, evaluation, check, counts and writer try first of a design and the tables that are lent for it.
use Rattle.std.specs.Prelude.{◌||◌, List, [], ◌∷◌, ◌++◌, ℕ, ltb}
use Rattle.refusal.specs.declared.Cause.{Cause}
use Rattle.refusal.specs.Checks.{Check, ◌↝◌}
use Rattle.design.specs.declared.Design.{Design}
use Rattle.design.specs.Stored.{initial_count, offset_total}
use Rattle.design.specs.Legal.{design_checks}

-- 10, "either lent table shorter than the set", by the tables' lengths
unfoldable pub tables_check : Design → ℕ → ℕ → Check
tables_check d initial offsets = (ltb initial (initial_count d) || ltb offsets (offset_total d)) ↝ Cause.TablesShort

-- 1 to 10
unfoldable pub set_checks : Design → ℕ → ℕ → List Check
set_checks d initial offsets = design_checks d ++ tables_check d initial offsets ∷ []
