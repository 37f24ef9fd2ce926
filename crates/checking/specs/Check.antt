-- What the call `check` answers: "check 1 to 10", else faithful or the lowest unfaithful word.
use Rattle.std.specs.Prelude.{◌≡◌, Bool, true, false, not, ◌&&◌, ◌⊎◌, List, ℕ, zero, suc, ◌+◌, ◌^◌, ◌<◌, length, ℤ}
use Rattle.std.specs.Prelude.{Option, None, Some, Result, Ok}
use Rattle.refusal.specs.declared.Cause.{Cause}
use Rattle.refusal.specs.Verdict.{Verdict}
use Rattle.refusal.specs.Checks.{verdict, answer}
use Rattle.refusal.specs.Told.{Told, told}
use Rattle.values.specs.Faithful.{Faithful, is_faithful}
use Rattle.design.specs.declared.Design.{Design}
use Rattle.design.specs.Cut.{row}
use Rattle.tables.specs.Sum.{sum_at, sum_outside, word_at}
use Rattle.tables.specs.Set.{set_checks}

-- "A word whose sum is refused counts as unfaithful."
unfoldable pub faithful_at : Design → List ℕ → List ℤ → ℕ → Bool
faithful_at d initial offsets x =
    not (sum_outside d (sum_at d initial offsets x)) && is_faithful (row d) d.w d.q (2 ^ d.w + x) (word_at d initial offsets x)

-- What the check finds, "the check stops at the lowest unfaithful word and names it, or answers faithful": the word, or none where all are
-- faithful
abbrev pub Finding : Type 0
Finding = Option ℕ

-- "From 0 upwards": what is found up to the word x, and with x
abbrev pub with_input : Finding → Bool → ℕ → Finding
with_input None true x = None
with_input None false x = Some x
with_input (Some lowest) faithful x = Some lowest

-- What is found among the words below n, by whether each is faithful
unfoldable pub finding_below : ℕ → (ℕ → Bool) → Finding
finding_below zero faithful = None
finding_below (suc n) faithful = with_input (finding_below n faithful) (faithful n) n

unfoldable pub check_verdict : Design → List ℕ → List ℤ → Verdict
check_verdict d initial offsets = verdict (set_checks d (length initial) (length offsets))

unfoldable pub check_answer : Design → List ℕ → List ℤ → Result Finding Cause
check_answer d initial offsets = answer (check_verdict d initial offsets) (finding_below (2 ^ d.w) (faithful_at d initial offsets))

-- What is to be told: "check 1 to 10", else what is found among all words
unfoldable pub check_told : Design → List ℕ → List ℤ → Told Finding
check_told d initial offsets = told (check_verdict d initial offsets) (finding_below (2 ^ d.w) (faithful_at d initial offsets))

-- An input "has a word, less than one output unit from the exact value".
pub record FaithfulWord (d : Design) (initial : List ℕ) (offsets : List ℤ) (x : ℕ) : Type 0 where
  pub has_word : sum_outside d (sum_at d initial offsets x) ≡ false
  pub faithful : Faithful (row d) d.w d.q (2 ^ d.w + x) (word_at d initial offsets x)

-- Demand 2: "The check says faithful exactly when every input has a word, less than one output unit from the exact value, and otherwise
-- names the lowest input that fails." This is what the answer means for tables that pass refusals 1 to 10.
pub record CheckMeans (d : Design) (initial : List ℕ) (offsets : List ℤ) : Type 0 where
  pub says-faithful : check_answer d initial offsets ≡ Ok None → (x : ℕ) → x < 2 ^ d.w → FaithfulWord d initial offsets x
  pub is-faithful : ((x : ℕ) → x < 2 ^ d.w → FaithfulWord d initial offsets x) → check_answer d initial offsets ≡ Ok None
  -- the input that is named, and no other, is the lowest that fails
  pub names : (x : ℕ) → check_answer d initial offsets ≡ Ok (Some x)
      → (x < 2 ^ d.w) × (FaithfulWord d initial offsets x → ⊥) × ((i : ℕ) → i < x → FaithfulWord d initial offsets i)
  pub is-named : (x : ℕ) → x < 2 ^ d.w → (FaithfulWord d initial offsets x → ⊥)
      → ((i : ℕ) → i < x → FaithfulWord d initial offsets i) → check_answer d initial offsets ≡ Ok (Some x)
  -- and there is no other answer
  pub answers : (check_answer d initial offsets ≡ Ok None) ⊎ ((x : ℕ) × (check_answer d initial offsets ≡ Ok (Some x)))
