-- Lists one after another: what holds of each element, of some, and of every two of them.
use mathlib.Core.Path.{◌≡◌, refl}
use mathlib.Core.List.{List, [], ◌∷◌, ◌++◌}
use mathlib.Core.Logic.{◌⊎◌, inl, inr, ⊎_elim}
use Prim.Native.Nat.{ℕ, zero, suc, ◌+◌, ◌<◌}
use native.Mathlib.Nat.{le_refl, le_step, not-suc-le-zero}
use native.Mathlib.Numerals.{add-one}
use native.Mathlib.Omega.{arith}
use Rattle.general.specs.Below.{joined}
use Rattle.general.specs.Lists.{All}
use Rattle.general.proofs.Sums.{below_suc}

-- Some element has the property; each element is related to every later one.
abbrev pub Some : {A : Type 0} → (A → Type 0) → List A → Type 0
Some P [] = ⊥
Some P (x ∷ xs) = P x ⊎ Some P xs

abbrev pub Ordered : {A : Type 0} → (A → A → Type 0) → List A → Type 0
Ordered R [] = Unit {0}
Ordered R (x ∷ xs) = All (R x) xs × Ordered R xs

pub all_weaker : {A : Type 0} {P Q : A → Type 0} → ((x : A) → P x → Q x) → (xs : List A) → All P xs → All Q xs
all_weaker f [] all = tt
all_weaker f (x ∷ xs) all = (f x all.0, all_weaker f xs all.1)

pub some-weaker : {A : Type 0} {P Q : A → Type 0} → ((x : A) → P x → Q x) → (xs : List A) → Some P xs → Some Q xs
some-weaker f [] some = some
some-weaker f (x ∷ xs) some = ⊎_elim (λ here. inl (f x here)) (λ there. inr (some-weaker f xs there)) some

module _ {A : Type 0} (P : A → Type 0) where
  pub all_append : (xs ys : List A) → All P xs → All P ys → All P (xs ++ ys)
  all_append [] ys left right = right
  all_append (x ∷ xs) ys left right = (left.0, all_append xs ys left.1 right)

  pub some_left : (xs ys : List A) → Some P xs → Some P (xs ++ ys)
  some_left [] ys some = absurd some
  some_left (x ∷ xs) ys some = ⊎_elim (λ here. inl here) (λ later. inr (some_left xs ys later)) some

  pub some_right : (xs ys : List A) → Some P ys → Some P (xs ++ ys)
  some_right [] ys some = some
  some_right (x ∷ xs) ys some = inr (some_right xs ys some)

  -- of the lists that f gives for n numbers from `low` on
  module _ (low : ℕ) (f : ℕ → List A) where
    pub all-joined : (n : ℕ) → ((j : ℕ) → j < n → All P (f (low + j))) → All P (joined low n f)
    unfolding joined
    all-joined zero each = tt
    all-joined (suc n) each = all_append (joined low n f) (f (low + n)) (all-joined n (λ j h. each j (le_step h))) (each n (le_refl _))

    pub some-joined : (n j : ℕ) → j < n → Some P (f (low + j)) → Some P (joined low n f)
    unfolding joined
    some-joined zero j h some = absurd (not-suc-le-zero h)
    some-joined (suc n) j h some =
        below_suc h (λ last. some_right (joined low n f) (f (low + n)) (rw (← last) some))
        (λ before. some_left (joined low n f) (f (low + n)) (some-joined n j before some))

pub joined-next : {A : Type 0} (low n : ℕ) (f : ℕ → List A) → joined low (n + 1) f ≡ joined low n f ++ f (low + n)
unfolding joined
joined-next low n f = rw add-one refl

module _ {A : Type 0} (R : A → A → Type 0) where
  ordered-append : (xs ys : List A) → Ordered R xs → Ordered R ys → All (λ x. All (R x) ys) xs → Ordered R (xs ++ ys)
  ordered-append [] ys left right across = right
  ordered-append (x ∷ xs) ys left right across =
      (all_append (R x) xs ys left.0 across.0, ordered-append xs ys left.1 right across.1)

  -- of lists whose elements are related by what their numbers tell of them
  module _ (Of : ℕ → A → Type 0) (apart : (j k : ℕ) (x y : A) → j < k → Of j x → Of k y → R x y) (low : ℕ) (f : ℕ → List A) where
    across : (n : ℕ) → ((j : ℕ) → j < n + 1 → All (Of (low + j)) (f (low + j))) → All (λ x. All (R x) (f (low + n))) (joined low n f)
    across n each =
        all-joined (λ x. All (R x) (f (low + n))) low f n
        (λ j before. all_weaker
        (λ x of. all_weaker (λ y later. apart (low + j) (low + n) x y (omega arith) of later) (f (low + n)) (each n (omega arith)))
        (f (low + j)) (each j (omega arith)))

    pub ordered-joined : (n : ℕ) → ((j : ℕ) → j < n → All (Of (low + j)) (f (low + j))) → ((j : ℕ) → j < n → Ordered R (f (low + j)))
        → Ordered R (joined low n f)
    unfolding joined
    ordered-joined zero each ordered = tt
    ordered-joined (suc n) each ordered =
        ordered-append (joined low n f) (f (low + n)) (ordered-joined n (λ j h. each j (le_step h)) (λ j h. ordered j (le_step h)))
        (ordered n (le_refl _)) (across n (λ j h. each j (rw (add-one n) at h)))
