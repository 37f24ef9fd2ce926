-- Of two designs at most one comes before the other.
use mathlib.Core.Path.{◌≡◌, ap}
use mathlib.Core.Logic.{◌⊎◌, inl, inr, ⊎_elim}
use Prim.Native.Nat.{ℕ, ◌<◌}
use native.Mathlib.Decide.{dec_lt}
use native.Mathlib.Omega.{arith}
use Rattle.design.specs.declared.Pair.{Pair}
use Rattle.design.specs.declared.Design.{Design}
use Rattle.design.specs.Cut.{pair_at, a_of, b_of}
use Rattle.optimum.specs.Order.{SameBefore, Before, by-g, by-alpha, by-m, by-a, by-b}

-- The pair of table i is smaller
abbrev Less : Design → Design → ℕ → Type 0
Less d e i = (a_of d i < a_of e i) ⊎ ((a_of d i ≡ a_of e i) × (b_of d i < b_of e i))

not-less : (d e : Design) (i : ℕ) → pair_at e i ≡ pair_at d i → Less d e i → ⊥
not-less d e i same less =
    let a-same : a_of e i ≡ a_of d i = ap (λ (pair : Pair). pair.a) same in
    let b-same : b_of e i ≡ b_of d i = ap (λ (pair : Pair). pair.b) same in
    ⊎_elim (λ x. omega (arith, x, a-same)) (λ x. omega (arith, x.1, b-same)) less

-- The first table in which they differ is one, and there only one pair is smaller.
module _ (d e : Design) where
  pairs-apart : (i j : ℕ) → SameBefore d e i → Less d e i → SameBefore e d j → Less e d j → ⊥
  pairs-apart i j same less other more =
      elim (dec_lt i j) [
        | yes before ↦ not-less d e i (other.pairs i before) less
        | no from ↦ elim (dec_lt j i) [
          | yes after ↦ not-less e d j (same.pairs j after) more
          | no to ↦
              let here : i ≡ j = omega arith in
              let there : Less e d i = rw here more in
              ⊎_elim (λ x. ⊎_elim (λ y. omega (arith, x, y)) (λ y. omega (arith, x, y.0)) there)
              (λ x. ⊎_elim (λ y. omega (arith, x.0, y)) (λ y. omega (arith, x.1, y.1)) there) less
        ]
      ]

-- By the first number: g, alpha, m, or a pair's
data First (d e : Design) : Type 0 where
  of-g : d.g < e.g → First d e
  of-alpha : d.g ≡ e.g → d.alpha < e.alpha → First d e
  of-m : d.g ≡ e.g → d.alpha ≡ e.alpha → d.m < e.m → First d e
  of_pair : (i : ℕ) → SameBefore d e i → Less d e i → First d e

first : (d e : Design) → Before d e → First d e
first d e (by-g less) = of-g less
first d e (by-alpha g less) = of-alpha g less
first d e (by-m g alpha less) = of-m g alpha less
first d e (by-a i within same less) = of_pair i same (inl less)
first d e (by-b i within same a less) = of_pair i same (inr (a, less))

apart : (d e : Design) → First d e → First e d → ⊥
apart d e (of-g x) (of-g y) = omega arith
apart d e (of-g x) (of-alpha g y) = omega arith
apart d e (of-g x) (of-m g alpha y) = omega arith
apart d e (of-g x) (of_pair j other more) = omega (arith, x, other.g)
apart d e (of-alpha g x) (of-g y) = omega arith
apart d e (of-alpha g x) (of-alpha g' y) = omega arith
apart d e (of-alpha g x) (of-m g' alpha y) = omega arith
apart d e (of-alpha g x) (of_pair j other more) = omega (arith, x, other.alpha)
apart d e (of-m g alpha x) (of-g y) = omega arith
apart d e (of-m g alpha x) (of-alpha g' y) = omega arith
apart d e (of-m g alpha x) (of-m g' alpha' y) = omega arith
apart d e (of-m g alpha x) (of_pair j other more) = omega (arith, x, other.m)
apart d e (of_pair i same less) (of-g y) = omega (arith, y, same.g)
apart d e (of_pair i same less) (of-alpha g y) = omega (arith, y, same.alpha)
apart d e (of_pair i same less) (of-m g alpha y) = omega (arith, y, same.m)
apart d e (of_pair i same less) (of_pair j other more) = pairs-apart d e i j same less other more

pub not-both : (d e : Design) → Before d e → Before e d → ⊥
not-both d e before after = apart d e (first d e before) (first e d after)
