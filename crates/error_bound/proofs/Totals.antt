-- Signed sums in natural numbers: all that is added, and all that is taken.
use mathlib.Core.Path.{◌≡◌, refl}
use mathlib.Core.Bool.{Bool, true, false, cond}
use Prim.Native.Nat.{ℕ, zero, suc, ◌+◌, ◌-◌, ◌≤◌}
use native.Mathlib.Omega.{arith}
use lib.Dec.{ltb}
use lib.IntN.{ℤ, pos, negsuc, sub_ℕ, ◌+ℤ◌}
use borrow.Author.Tests.{ltb-true, ltb-false}
use Rattle.general.specs.Below.{sum_below, signed_sum}

abbrev pub added : ℤ → ℕ
added (pos n) = n
added (negsuc n) = 0

abbrev pub taken : ℤ → ℕ
taken (pos n) = 0
taken (negsuc n) = suc n

-- z is a less t
abbrev pub Balance : ℤ → ℕ → ℕ → Type 0
Balance z a t = a + taken z ≡ t + added z

pub difference : (a t : ℕ) → Balance (sub_ℕ a t) a t
difference a t = go (ltb a t) refl
  where
    go : (less : Bool) → ltb a t ≡ less → Balance (cond less (negsuc (t - suc a)) (pos (a - t))) a t
    go true e = omega (arith, ltb-true a t e)
    go false e = omega (arith, ltb-false a t e)

-- A sum adds what both add and takes what both take.
plus : (y z : ℤ) → Balance (y +ℤ z) (added y + added z) (taken y + taken z)
plus (pos m) (pos n) = omega arith
plus (pos m) (negsuc n) = omega (arith, difference m (suc n))
plus (negsuc m) (pos n) = omega (arith, difference n (suc m))
plus (negsuc m) (negsuc n) = omega arith

-- So does the sum over n tables.
pub sum-balance : (n : ℕ) (f : ℕ → ℤ) → Balance (signed_sum n f) (sum_below n (λ i. added (f i))) (sum_below n (λ i. taken (f i)))
unfolding signed_sum sum_below
sum-balance zero f = refl
sum-balance (suc n) f = omega (arith, sum-balance n f, plus (signed_sum n f) (f n))

pub total-balance : (first n : ℕ) (f : ℕ → ℤ)
    → Balance (pos first +ℤ signed_sum n f) (first + sum_below n (λ i. added (f i))) (sum_below n (λ i. taken (f i)))
total-balance first n f = omega (arith, sum-balance n f, plus (pos first) (signed_sum n f))

-- No more taken than added: the number is not negative.
pub not_negative : (z : ℤ) (a t : ℕ) → Balance z a t → t ≤ a → z ≡ pos (a - t)
not_negative (pos n) a t e h = let f : n ≡ a - t = omega arith in rw f refl
not_negative (negsuc n) a t e h = absurd (omega arith)
