-- A test or a sum over the places of a list is one over the list itself.
use mathlib.Core.Path.{◌≡◌, refl, sym, ap, ◌∙◌}
use mathlib.Core.Bool.{Bool, true, false, ◌||◌}
use mathlib.Core.List.{List, [], ◌∷◌}
use Prim.Native.Nat.{ℕ, zero, suc, ◌+◌}
use native.Mathlib.Omega.{arith}
use lib.ListN.{length, get_or}
use Rattle.std.specs.List.{list_any, sum_by}
use Rattle.std.proofs.lemmas.List.Sums.{sum_by-cons}
use Rattle.general.specs.Below.{sum_below, some_below}

or-assoc : (a b c : Bool) → (a || b) || c ≡ a || (b || c)
or-assoc true b c = refl
or-assoc false b c = refl

-- from the front
some-front : (n : ℕ) (test : ℕ → Bool) → some_below (suc n) test ≡ test 0 || some_below n (λ i. test (suc i))
unfolding some_below
some-front zero test = by-test (test 0)
  where
    by-test : (b : Bool) → false || b ≡ b || false
    by-test true = refl
    by-test false = refl
some-front (suc n) test =
    ap (λ b. b || test (suc n)) (some-front n test) ∙ or-assoc (test 0) (some_below n (λ i. test (suc i))) (test (suc n))

sum-front : (n : ℕ) (f : ℕ → ℕ) → sum_below (suc n) f ≡ f 0 + sum_below n (λ i. f (suc i))
unfolding sum_below
sum-front zero f = omega arith
sum-front (suc n) f = let e = sum-front n f in omega (arith, e)

pub some-in-list : {A : Type 0} (test : A → Bool) (d : A) (xs : List A)
    → some_below (length xs) (λ i. test (get_or xs i d)) ≡ list_any test xs
unfolding some_below
some-in-list test d [] = refl
some-in-list test d (x ∷ xs) =
    some-front (length xs) (λ i. test (get_or (x ∷ xs) i d)) ∙ ap (λ b. test x || b) (some-in-list test d xs)

pub sum-in-list : {A : Type 0} (f : A → ℕ) (d : A) (xs : List A) → sum_below (length xs) (λ i. f (get_or xs i d)) ≡ sum_by f xs
unfolding sum_below
sum-in-list f d [] = refl
sum-in-list f d (x ∷ xs) =
    sum-front (length xs) (λ i. f (get_or (x ∷ xs) i d)) ∙ ap (λ n. f x + n) (sum-in-list f d xs)
    ∙ sym (sum_by-cons f x xs)
