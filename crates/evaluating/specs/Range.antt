-- Batches whose words cannot be refused for their sums.
use Rattle.std.specs.Prelude.{◌≡◌, false, List, [], ◌∷◌, ℕ, ◌^◌, ◌<◌, length, get_or, ℤ}
use Rattle.refusal.specs.Checks.{verdict}
use Rattle.values.specs.Value.{word_check}
use Rattle.design.specs.declared.Design.{Design}
use Rattle.tables.specs.Sum.{sum_at, sum_outside}
use Rattle.evaluating.specs.Batch.{Batched, batch_below}

-- Every word's sum is in range, "0 ≤ Y < 2^(P+2)".
abbrev pub SumsInRange : Design → List ℕ → List ℤ → Type 0
SumsInRange d initial offsets = (x : ℕ) → x < 2 ^ d.w → sum_outside d (sum_at d initial offsets x) ≡ false

-- The answer for a batch then: 12 is all that can turn a word down.
unfoldable pub width_answer : ℕ → List ℕ → Batched
width_answer w words = batch_below (length words) (λ n. verdict (word_check w (get_or words n 0) ∷ []))
