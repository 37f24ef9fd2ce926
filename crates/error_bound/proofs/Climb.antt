-- Many steps on one interval, a table at a time, each table with its own slope.
use mathlib.Core.Path.{◌≡◌, refl}
use mathlib.Core.Bool.{Bool, true, false}
use Prim.Native.Nat.{ℕ, zero, suc, ◌+◌, ◌*◌, ◌≤◌, ◌<◌}
use native.Mathlib.Nat.{add-zero, add_assoc, le_refl, le_step}
use native.Mathlib.Omega.{arith}
use Rattle.general.specs.Below.{sum_below}
use Rattle.error_bound.proofs.Steps.{Rises}

-- X lies between s and e
pub record Inside (s e X : ℕ) : Type 0 where
  pub from : s ≤ X
  pub to : X ≤ e

-- A step of S + T has a place between, S after its start and T before its end.
record Halfway (rising : Bool) (s e u v S T : ℕ) : Type 0 where
  place : ℕ
  inside : Inside s e place
  first : Rises rising u S place
  second : Rises rising place T v

halfway : (rising : Bool) (s e u v S T : ℕ) → Inside s e u → Inside s e v → Rises rising u (S + T) v → Halfway rising s e u v S T
halfway true s e u v S T at-u at-v step =
    record { place = u + S; inside = record { from = omega arith; to = omega arith }; first = refl; second = omega arith }
halfway false s e u v S T at-u at-v step =
    record { place = v + T; inside = record { from = omega arith; to = omega arith }; first = omega arith; second = refl }

-- A step of length 0 goes nowhere.
nowhere : (rising : Bool) (u v : ℕ) → Rises rising u 0 v → u ≡ v
nowhere true u v step = omega arith
nowhere false u v step = omega arith

-- Whatever a step of each table keeps, with its gain h·t added, the steps of n tables keep, with all gains added.
module _ (Holds : ℕ → ℕ → Type 0) (rising : Bool) (s e : ℕ) (h t : ℕ → ℕ) where
  abbrev Keeps : ℕ → Type 0
  Keeps i = (u v a : ℕ) → Inside s e u → Inside s e v → Rises rising u (t i) v → Holds u a → Holds v (a + h i * t i)

  pub climb : (n : ℕ) → ((i : ℕ) → i < n → Keeps i) → (u v a : ℕ) → Inside s e u → Inside s e v → Rises rising u (sum_below n t) v
      → Holds u a → Holds v (a + sum_below n (λ i. h i * t i))
  unfolding sum_below
  climb zero keeps u v a at-u at-v step start = rw (← nowhere rising u v step, add-zero) start
  climb (suc n) keeps u v a at-u at-v step start =
      let mid = halfway rising s e u v (sum_below n t) (t n) at-u at-v step in
      rw (← add_assoc)
      (keeps n (le_refl _) mid.place v _ mid.inside at-v mid.second
      (climb n (λ i i_lt. keeps i (le_step i_lt)) u mid.place a at-u mid.inside mid.first start))
