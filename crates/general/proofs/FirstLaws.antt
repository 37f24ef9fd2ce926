-- The first number that passes a test.
use mathlib.Core.Path.{◌≡◌, refl, sym, ◌∙◌}
use mathlib.Core.Bool.{Bool, true, false, cond, true≢false}
use mathlib.Core.Logic.{⊎_elim}
use Prim.Native.Nat.{ℕ, zero, suc, ◌+◌, ◌≤◌, ◌<◌}
use native.Mathlib.Nat.{le_refl, eq-or-lt_of_le}
use native.Mathlib.Omega.{arith}
use Rattle.general.specs.Below.{first_from}

-- What holds of either is so of a choice between the two.
either : (P : ℕ → Type 0) (t : Bool) (a b : ℕ) → (t ≡ true → P a) → (t ≡ false → P b) → P (cond t a b)
either P true a b first second = first refl
either P false a b first second = second refl

-- It is one of those that are tried, or the number behind them,
pub first-low : (low n : ℕ) (test : ℕ → Bool) → low ≤ first_from low n test
unfolding first_from
first-low low zero test = le_refl low
first-low low (suc n) test =
    either (λ k. low ≤ k) (test low) low _ (λ e. le_refl low) (λ e. omega (arith, first-low (low + 1) n test))

pub first-high : (low n : ℕ) (test : ℕ → Bool) → first_from low n test ≤ low + n
unfolding first_from
first-high low zero test = omega arith
first-high low (suc n) test =
    either (λ k. k ≤ low + suc n) (test low) low _ (λ e. omega arith) (λ e. omega (arith, first-high (low + 1) n test))

-- it passes, if it is one of them,
pub first_passes : (low n : ℕ) (test : ℕ → Bool) → first_from low n test < low + n → test (first_from low n test) ≡ true
unfolding first_from
first_passes low zero test = λ h. absurd (omega arith)
first_passes low (suc n) test =
    either (λ k. k < low + suc n → test k ≡ true) (test low) low _ (λ e h. e) (λ e h. first_passes (low + 1) n test (omega arith))

-- and none before it does.
behind : (low k : ℕ) (test : ℕ → Bool) → low ≤ k → test k ≡ true → test low ≡ false → low + 1 ≤ k
behind low k test from passes fails =
    ⊎_elim (λ (same : low ≡ k). absurd (true≢false (sym passes ∙ rw (← same) fails))) (λ (below : low < k). omega arith)
    (eq-or-lt_of_le from)

pub first-least : (low n : ℕ) (test : ℕ → Bool) (k : ℕ) → low ≤ k → test k ≡ true → first_from low n test ≤ k
unfolding first_from
first-least low zero test k from passes = from
first-least low (suc n) test k from passes =
    either (λ f. f ≤ k) (test low) low _ (λ e. from) (λ e. first-least (low + 1) n test k (behind low k test from passes e) passes)

-- Tests that agree have the same first number.
pub first-same : (low n : ℕ) (test other : ℕ → Bool) → ((k : ℕ) → low ≤ k → test k ≡ other k) → first_from low n test ≡ first_from low n other
unfolding first_from
first-same low zero test other same = refl
first-same low (suc n) test other same =
    rw (same low (le_refl low), first-same (low + 1) n test other (λ k from. same k (omega arith)))
