-- Over the numbers below n, from 0 upwards: a sum, a sum of signed numbers, the largest, whether some or all pass a test, how many do, the
-- list. And over the numbers from one to another: the first that passes a test, the lists that they give.
use Rattle.std.specs.Prelude.{Bool, true, false, cond, ◌||◌, ◌&&◌, List, [], ◌∷◌, ◌++◌, ℕ, zero, suc, ◌+◌, ◌-◌, max, ℤ, pos, ◌+ℤ◌}

unfoldable pub sum_below : ℕ → (ℕ → ℕ) → ℕ
sum_below zero f = 0
sum_below (suc n) f = sum_below n f + f n

unfoldable pub signed_sum : ℕ → (ℕ → ℤ) → ℤ
signed_sum zero f = pos 0
signed_sum (suc n) f = signed_sum n f +ℤ f n

-- 0 where there are none
unfoldable pub largest : ℕ → (ℕ → ℕ) → ℕ
largest zero f = 0
largest (suc n) f = max (largest n f) (f n)

-- Whether the test holds for some of them
unfoldable pub some_below : ℕ → (ℕ → Bool) → Bool
some_below zero test = false
some_below (suc n) test = some_below n test || test n

-- Whether it holds for each of them
unfoldable pub every_below : ℕ → (ℕ → Bool) → Bool
every_below zero test = true
every_below (suc n) test = every_below n test && test n

-- How many of them pass the test
unfoldable pub count_below : ℕ → (ℕ → Bool) → ℕ
count_below zero test = 0
count_below (suc n) test = count_below n test + cond (test n) 1 0

unfoldable pub list_below : {A : Type 0} → ℕ → (ℕ → A) → List A
list_below zero f = []
list_below (suc n) f = list_below n f ++ (f n ∷ [])

-- The first of n numbers from `low` on that passes the test, and low + n where none does
unfoldable pub first_from : ℕ → ℕ → (ℕ → Bool) → ℕ
first_from low zero test = low
first_from low (suc n) test = cond (test low) low (first_from (low + 1) n test)

-- What f gives for n numbers from `low` on, one list after another
unfoldable pub joined : {A : Type 0} → ℕ → ℕ → (ℕ → List A) → List A
joined low zero f = []
joined low (suc n) f = joined low n f ++ f (low + n)

-- The same for each number from `low` to `high`
abbrev pub for_each : {A : Type 0} → ℕ → ℕ → (ℕ → List A) → List A
for_each low high f = joined low (high + 1 - low) f
