-- Document 01, "What is turned down, by place", 1 to 4: the limits of kind and widths, for every call that takes them.
use Rattle.std.specs.Prelude.{◌||◌, List, [], ◌∷◌, ◌++◌, ℕ, ◌+◌, ltb}
use Rattle.refusal.specs.declared.Cause.{Cause}
use Rattle.refusal.specs.Checks.{Check, ◌↝◌, outside}
use Rattle.values.specs.declared.widths.Limits.{Limits}

-- "kind not 0..4", "w not 6..16", "q not 6..16", "g not 2..6, or q+g over 20": the same for every kind.
unfoldable pub limits_of : ℕ → Limits
limits_of kind =
    record {
      kind = 4;
      w = record { 0 = 6; 1 = 16 };
      q = record { 0 = 6; 1 = 16 };
      g = record { 0 = 2; 1 = 6 };
      sum = 20;
    }

-- 1 to 3, for every call; and 4, where guard bits are given
abbrev pub function_checks : Limits → ℕ → ℕ → ℕ → List Check
function_checks limits kind w q =
    outside 0 limits.kind kind ↝ Cause.Kind ∷
    outside limits.w.0 limits.w.1 w ↝ Cause.InputWidth ∷
    outside limits.q.0 limits.q.1 q ↝ Cause.OutputWidth ∷ []

abbrev pub guard_check : Limits → ℕ → ℕ → Check
guard_check limits q g = (outside limits.g.0 limits.g.1 g || ltb limits.sum (q + g)) ↝ Cause.GuardBits

unfoldable pub width_checks : Limits → ℕ → ℕ → ℕ → ℕ → List Check
width_checks limits kind w q g = function_checks limits kind w q ++ guard_check limits q g ∷ []
