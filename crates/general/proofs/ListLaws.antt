-- Lists over the numbers below a bound: how long they are, what stands where, and how they go on.
use mathlib.Core.Path.{◌≡◌, refl, ap₂, ◌∙◌}
use mathlib.Core.List.{List, [], ◌∷◌, ◌++◌, append_assoc, append-nil}
use Prim.Native.Nat.{ℕ, zero, suc, ◌+◌, ◌<◌}
use native.Mathlib.Nat.{add-suc, add-zero, le_refl, le_step, not-suc-le-zero}
use native.Mathlib.Numerals.{add-one}
use native.Mathlib.Omega.{arith}
use lib.ListN.{length, get_or, length-append, get_or-append}
use lib.Seq.{get_or_at}
use Rattle.general.specs.Below.{list_below}
use Rattle.general.specs.Lists.{total}
use Rattle.general.proofs.Sums.{below_suc}

-- The list of f over the numbers below n has n elements, and f k at place k.
module _ {A : Type 0} (f : ℕ → A) where
  pub list_length : (n : ℕ) → length (list_below n f) ≡ n
  unfolding list_below
  list_length zero = refl
  list_length (suc n) = rw (length-append, list_length n) (add-one n)

  pub list_at : (n k : ℕ) (z : A) → k < n → get_or (list_below n f) k z ≡ f k
  unfolding list_below
  list_at zero k z h = absurd (not-suc-le-zero h)
  list_at (suc n) k z h =
      below_suc h (λ last. rw last (get_or_at (list_below n f) (f n) [] z n (list_length n)))
      (λ below. get_or-append (list_below n f) (f n ∷ []) z k (rw (list_length n) below) ∙ list_at n k z below)

-- The list of f over the numbers below n + k is that below n, then k more; and it goes by what f is there.
module _ {A : Type 0} (f : ℕ → A) where
  pub list-add : (n k : ℕ) → list_below (n + k) f ≡ list_below n f ++ list_below k (λ j. f (n + j))
  unfolding list_below
  list-add n zero = rw (add-zero, append-nil)
  list-add n (suc k) = rw (add-suc, list-add n k) (append_assoc (list_below n f) (list_below k (λ j. f (n + j))) (f (n + k) ∷ []))

  -- and its first element, then the others
  pub list-first : (n : ℕ) → list_below (suc n) f ≡ f 0 ∷ list_below n (λ j. f (suc j))
  unfolding list_below
  list-first zero = refl
  list-first (suc n) = rw (list-first n)

  pub list-congruence : (g : ℕ → A) (n : ℕ) → ((j : ℕ) → j < n → f j ≡ g j) → list_below n f ≡ list_below n g
  unfolding list_below
  list-congruence g zero same = refl
  list-congruence g (suc n) same =
      ap₂ (λ (l : List A) (v : A). l ++ (v ∷ [])) (list-congruence g n (λ j h. same j (le_step h))) (same n (le_refl _))

-- The sum of a list, and of another behind it
pub total-append : (xs ys : List ℕ) → total (xs ++ ys) ≡ total xs + total ys
unfolding total
total-append [] ys = omega arith
total-append (x ∷ xs) ys = omega (arith, total-append xs ys)
