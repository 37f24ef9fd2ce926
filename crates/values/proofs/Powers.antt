-- Inequalities of powers, for every degree. A degree k ≥ 1 is written suc j, so that a^(k-1) is a^j.
use mathlib.Core.Path.{◌≡◌, refl, sym, ap, ◌∙◌}
use Prim.Native.Nat.{ℕ, zero, suc, ◌+◌, ◌*◌, ◌^◌, ◌≤◌}
use native.Mathlib.Nat.{
  pow-zero,
  pow-suc,
  mul-zero,
  mul-suc,
  mul_comm,
  mul-le-mul_left,
  mul-le-mul_right,
  mul-mul-mul_comm,
  pow-le-pow_left,
  pow-lt-pow_left,
  not-le_of_lt,
  lt_of_not-le,
  suc-ne-zero,
}
use native.Mathlib.Decide.{dec_le}
use native.Mathlib.Omega.{arith}
use lib.Pow.{pow-add}

-- (a·b)^k = a^k·b^k
pub pow-mul : (a b k : ℕ) → (a * b) ^ k ≡ a ^ k * b ^ k
pow-mul a b zero = rw (pow-zero (a * b), pow-zero a, pow-zero b) refl
pow-mul a b (suc k) =
    pow-suc (a * b) k ∙ ap (λ (n : ℕ). n * (a * b)) (pow-mul a b k) ∙ mul-mul-mul_comm (a ^ k) (b ^ k) a b
    ∙ rw (← pow-suc a k, ← pow-suc b k) refl

-- (a^k)^n = a^(k·n)
pub pow-pow : (a k n : ℕ) → (a ^ k) ^ n ≡ a ^ (k * n)
pow-pow a k zero = rw (pow-zero (a ^ k), mul-zero k, pow-zero a) refl
pow-pow a k (suc n) =
    pow-suc (a ^ k) n ∙ ap (λ (m : ℕ). m * a ^ k) (pow-pow a k n) ∙ sym (pow-add a (k * n) k)
    ∙ ap (λ (m : ℕ). a ^ m) (sym (mul-suc k n))

pub pow-swap : (a t k : ℕ) → (a ^ t) ^ k ≡ (a ^ k) ^ t
pow-swap a t k = pow-pow a t k ∙ ap (λ (e : ℕ). a ^ e) (mul_comm t k) ∙ sym (pow-pow a k t)

-- a^k ≤ b^k only where a ≤ b
pub pow-cancel : (a b j : ℕ) → a ^ suc j ≤ b ^ suc j → a ≤ b
pow-cancel a b j h = elim (dec_le a b) [ yes p ↦ p | no n ↦ absurd (not-le_of_lt (pow-lt-pow_left (lt_of_not-le n) (suc-ne-zero j)) h) ]

-- u^k·v ≤ v^k·u where u ≤ v: the k-th power grows at least as its argument
pub power-grows : (u v j : ℕ) → u ≤ v → u ^ suc j * v ≤ v ^ suc j * u
power-grows u v j h =
    rw (pow-suc u j, pow-suc v j) (omega (arith, mul-le-mul_right (u * v) (pow-le-pow_left h j)))

-- a^k + k·a^(k-1)·d ≤ (a+d)^k
step-up : (a d j p s : ℕ) → p * a + suc j * (p * d) ≤ s → p * a * a + suc (suc j) * (p * a * d) ≤ s * (a + d)
step-up a d j p s h = omega (arith, mul-le-mul_right (a + d) h)

pub bernoulli-low : (a d j : ℕ) → a ^ suc j + suc j * (a ^ j * d) ≤ (a + d) ^ suc j
bernoulli-low a d zero = rw (pow-suc a 0, pow-suc (a + d) 0, pow-zero a, pow-zero (a + d)) (omega arith)
bernoulli-low a d (suc j) =
    rw (pow-suc (a + d) (suc j), pow-suc a (suc j), pow-suc a j)
    (step-up a d j (a ^ j) ((a + d) ^ suc j) (rw (pow-suc a j) at (bernoulli-low a d j)))

-- (a+d)^k ≤ a^k + k·(a+d)^(k-1)·d
step_down : (a d j p s : ℕ) → p * (a + d) ≤ s + suc j * (p * d)
    → p * (a + d) * (a + d) ≤ s * a + suc (suc j) * (p * (a + d) * d)
step_down a d j p s h = omega (arith, mul-le-mul_right a h)

pub bernoulli-high : (a d j : ℕ) → (a + d) ^ suc j ≤ a ^ suc j + suc j * ((a + d) ^ j * d)
bernoulli-high a d zero = rw (pow-suc a 0, pow-suc (a + d) 0, pow-zero a, pow-zero (a + d)) (omega arith)
bernoulli-high a d (suc j) =
    rw (pow-suc (a + d) (suc j), pow-suc a (suc j), pow-suc (a + d) j)
    (step_down a d j ((a + d) ^ j) (a ^ suc j) (rw (pow-suc (a + d) j) at (bernoulli-high a d j)))

-- From a at u, h a step reaches at least as far as the k-th root grows to u + t, if a ≤ k·h·u.
pub product-low : (a h u t j : ℕ) → a ≤ suc j * h * u → a ^ suc j * (u + t) ≤ (a + h * t) ^ suc j * u
product-low a h u t j m =
    rw (pow-suc a j)
    (omega (
      arith,
      mul-le-mul_right u (rw (pow-suc a j) at (bernoulli-low a (h * t) j)),
      mul-le-mul_left (a ^ j * t) m,
    ))

-- And at most as far, if k·h·(u+t) ≤ a + h·t.
pub product_high : (a h u t j : ℕ) → suc j * h * (u + t) ≤ a + h * t → (a + h * t) ^ suc j * u ≤ a ^ suc j * (u + t)
product_high a h u t j m =
    rw (pow-suc (a + h * t) j)
    (omega (
      arith,
      mul-le-mul_right (u + t) (rw (pow-suc (a + h * t) j) at (bernoulli-high a (h * t) j)),
      mul-le-mul_left ((a + h * t) ^ j * t) m,
    ))
