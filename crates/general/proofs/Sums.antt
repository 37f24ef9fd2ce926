-- Sums and tests over the numbers below a bound.
use mathlib.Core.Path.{◌≡◌, refl, sym, ap, ap₂, ◌∙◌}
use mathlib.Core.Bool as Bool
use mathlib.Core.Bool.{Bool, true, false, cond, or-true}
use mathlib.Core.Logic.{⊎_elim}
use Prim.Native.Nat.{ℕ, zero, suc, ◌+◌, ◌*◌, ◌≤◌, ◌<◌, max}
use lib.IntN.{ℤ, ◌+ℤ◌, +ℤ_assoc, +ℤ_idl, +ℤ_idr}
use native.Mathlib.Nat.{
  eq-or-lt_of_le,
  le_of_suc-le-suc,
  not-suc-le-zero,
  le_trans,
  le_step,
  le_refl,
  le-add_right,
  le-max_left,
  le-max_right,
  max-le,
}
use native.Mathlib.Numerals.{add-one}
use native.Mathlib.Decide.{dec_lt}
use native.Mathlib.Omega.{arith}
use Rattle.general.specs.Below.{sum_below, some_below, every_below, count_below, largest, signed_sum}
use Rattle.general.proofs.Tests.{neither, both}

-- a number below suc n is n or below n
pub below_suc {ℓ} : {n i : ℕ} {A : Type ℓ} → i < suc n → (i ≡ n → A) → (i < n → A) → A
below_suc h at below = ⊎_elim at below (eq-or-lt_of_le (le_of_suc-le-suc h))

pub none_below : (n : ℕ) (test : ℕ → Bool) → some_below n test ≡ false → (i : ℕ) → i < n → test i ≡ false
unfolding some_below
none_below zero test e i h = absurd (not-suc-le-zero h)
none_below (suc n) test e i h =
    let parts = neither _ _ e in
    below_suc h (λ at. rw at parts.1) (λ below. none_below n test parts.0 i below)

-- and the other way round, both ways
pub none_of : (n : ℕ) (test : ℕ → Bool) → ((i : ℕ) → i < n → test i ≡ false) → some_below n test ≡ false
unfolding some_below
none_of zero test fails = refl
none_of (suc n) test fails = rw (none_of n test (λ i h. fails i (le_step h)), fails n (le_refl _))

pub some_of : (n : ℕ) (test : ℕ → Bool) (i : ℕ) → i < n → test i ≡ true → some_below n test ≡ true
unfolding some_below
some_of zero test i h e = absurd (not-suc-le-zero h)
some_of (suc n) test i h e =
    below_suc h (λ at. rw (← at, e) (or-true (some_below i test))) (λ below. rw (some_of n test i below e))

-- A test that holds for each of them, both ways
pub each_of : (n : ℕ) (test : ℕ → Bool) → every_below n test ≡ true → (i : ℕ) → i < n → test i ≡ true
unfolding every_below
each_of zero test e i h = absurd (not-suc-le-zero h)
each_of (suc n) test e i h =
    let parts = both _ _ e in
    below_suc h (λ at. rw at parts.1) (λ below. each_of n test parts.0 i below)

pub every_of : (n : ℕ) (test : ℕ → Bool) → ((i : ℕ) → i < n → test i ≡ true) → every_below n test ≡ true
unfolding every_below
every_of zero test holds = refl
every_of (suc n) test holds = rw (every_of n test (λ i h. holds i (le_step h)), holds n (le_refl _))

-- a sum grows with its bound, and keeps below a bound for each part
pub sum_mono : (f : ℕ → ℕ) (i n : ℕ) → i ≤ n → sum_below i f ≤ sum_below n f
unfolding sum_below
sum_mono f i zero h = let e : i ≡ 0 = omega arith in rw e (le_refl _)
sum_mono f i (suc n) h =
    ⊎_elim (λ (e : i ≡ suc n). rw e (le_refl _)) (λ below. le_trans (sum_mono f i n (le_of_suc-le-suc below)) (le-add_right _ _))
    (eq-or-lt_of_le h)

pub sum_step : (f : ℕ → ℕ) (i n : ℕ) → i < n → sum_below i f + f i ≤ sum_below n f
unfolding sum_below
sum_step f i n h = sum_mono f (suc i) n h

pub sum-bounded : (n B : ℕ) (f : ℕ → ℕ) → ((i : ℕ) → i < n → f i ≤ B) → sum_below n f ≤ n * B
unfolding sum_below
sum-bounded zero B f h = omega arith
sum-bounded (suc n) B f h = omega (arith, sum-bounded n B f (λ i g. h i (le_step g)), h n (le_refl _))

-- and goes by what its parts are
pub sum-congruence : (n : ℕ) (f g : ℕ → ℕ) → ((i : ℕ) → i < n → f i ≡ g i) → sum_below n f ≡ sum_below n g
unfolding sum_below
sum-congruence zero f g same = refl
sum-congruence (suc n) f g same = ap₂ ◌+◌ (sum-congruence n f g (λ i h. same i (le_step h))) (same n (le_refl _))

-- One number more: a test that fails there leaves the answer, one that holds settles it.
pub some-here : (n : ℕ) (test : ℕ → Bool) → test n ≡ true → some_below (n + 1) test ≡ true
unfolding some_below
some-here n test e = rw (add-one, e) (or-true (some_below n test))

pub some-not-here : (n : ℕ) (test : ℕ → Bool) → test n ≡ false → some_below (n + 1) test ≡ some_below n test
unfolding some_below
some-not-here n test e = rw (add-one, e) (Bool.or-false (some_below n test))

pub sum-next : (n : ℕ) (f : ℕ → ℕ) → sum_below (n + 1) f ≡ sum_below n f + f n
unfolding sum_below
sum-next n f = rw add-one refl

pub signed-next : (n : ℕ) (f : ℕ → ℤ) → signed_sum (n + 1) f ≡ signed_sum n f +ℤ f n
unfolding signed_sum
signed-next n f = rw add-one refl

-- A signed sum by its first part, and by what its parts are
pub signed-first : (n : ℕ) (f : ℕ → ℤ) → signed_sum (suc n) f ≡ f 0 +ℤ signed_sum n (λ i. f (i + 1))
unfolding signed_sum
signed-first zero f = +ℤ_idl (f 0) ∙ sym (+ℤ_idr (f 0))
signed-first (suc n) f =
    ap (λ (z : ℤ). z +ℤ f (suc n)) (signed-first n f)
    ∙ +ℤ_assoc (f 0) (signed_sum n (λ i. f (i + 1))) (f (suc n))
    ∙ rw (add-one n) refl

pub signed-congruence : (n : ℕ) (f g : ℕ → ℤ) → ((i : ℕ) → i < n → f i ≡ g i) → signed_sum n f ≡ signed_sum n g
unfolding signed_sum
signed-congruence zero f g same = refl
signed-congruence (suc n) f g same = ap₂ ◌+ℤ◌ (signed-congruence n f g (λ i h. same i (le_step h))) (same n (le_refl _))

-- How many pass a test: with one number more, no more than there are, and none exactly where each fails.
pub count_next : (n : ℕ) (test : ℕ → Bool) → count_below (n + 1) test ≡ count_below n test + cond (test n) 1 0
unfolding count_below
count_next n test = rw add-one refl

at_most_one : (t : Bool) → cond t 1 0 ≤ 1
at_most_one true = omega arith
at_most_one false = omega arith

pub count-bounded : (n : ℕ) (test : ℕ → Bool) → count_below n test ≤ n
unfolding count_below
count-bounded zero test = omega arith
count-bounded (suc n) test = omega (arith, count-bounded n test, at_most_one (test n))

none_here : (t : Bool) → ◌≡◌ {A = ℕ} (cond t 1 0) 0 → t ≡ false
none_here true e = absurd (omega arith)
none_here false e = refl

pub none-counted : (n : ℕ) (test : ℕ → Bool) → count_below n test ≡ 0 → (i : ℕ) → i < n → test i ≡ false
unfolding count_below
none-counted zero test e i h = absurd (not-suc-le-zero h)
none-counted (suc n) test e i h =
    below_suc h (λ at. rw at (none_here (test n) (omega arith))) (λ below. none-counted n test (omega arith) i below)

pub count_none : (n : ℕ) (test : ℕ → Bool) → ((i : ℕ) → i < n → test i ≡ false) → count_below n test ≡ 0
unfolding count_below
count_none zero test fails = refl
count_none (suc n) test fails = rw (count_none n test (λ i h. fails i (le_step h)), fails n (le_refl _)) refl

-- The largest of f over the numbers below n: with one number more,
pub largest-next : (n : ℕ) (f : ℕ → ℕ) → largest (n + 1) f ≡ max (largest n f) (f n)
unfolding largest
largest-next n f = rw add-one refl

-- it is at least each,
pub largest-above : (n : ℕ) (f : ℕ → ℕ) (i : ℕ) → i < n → f i ≤ largest n f
unfolding largest
largest-above zero f i h = absurd (not-suc-le-zero h)
largest-above (suc n) f i h =
    below_suc h (λ at. rw at (le-max_right _ _)) (λ below. le_trans (largest-above n f i below) (le-max_left _ _))

-- and no more than a bound for each.
pub largest-bounded : (n B : ℕ) (f : ℕ → ℕ) → ((i : ℕ) → i < n → f i ≤ B) → largest n f ≤ B
unfolding largest
largest-bounded zero B f h = omega arith
largest-bounded (suc n) B f h = max-le (largest-bounded n B f (λ i g. h i (le_step g))) (h n (le_refl _))

-- It is one of them, if there are any.
pub largest-reached : (n : ℕ) (f : ℕ → ℕ) → 0 < n → (i : ℕ) × (i < n) × (f i ≡ largest n f)
unfolding largest
largest-reached zero f h = absurd (not-suc-le-zero h)
largest-reached (suc zero) f h = (0, le_refl 1, omega arith)
largest-reached (suc (suc n)) f h =
    let before = largest-reached (suc n) f (omega arith) in
    elim (dec_lt (largest (suc n) f) (f (suc n))) [
      | yes more ↦ (suc n, le_refl _, omega arith)
      | no fewer ↦ (before.0, le_step before.1, omega (arith, before.2))
    ]
