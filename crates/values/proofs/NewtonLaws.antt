-- Newton's method for the k-th root of a limit, of every degree k = suc j: a step from r comes to floor((j·r + floor(limit / r^j)) / k).
-- From anywhere it comes to the root, rounded down, or above it; from above the root it comes closer.
use mathlib.Core.Path.{◌≡◌, refl, subst}
use Prim.Native.Nat.{ℕ, suc, ◌+◌, ◌-◌, ◌*◌, ◌/◌, ◌^◌, ◌≤◌, ◌<◌}
use native.Mathlib.Nat.{pow-zero, pow-suc, pow-succ', one-le-pow, one-mul, mul_comm, mul_right_comm, mul-le-mul_right, div-lt_iff_lt-mul}
use native.Mathlib.Nat.{lt-div-mul-add, lt_of_not-le}
use native.Mathlib.Decide.{dec_le}
use native.Mathlib.Numerals.{add-one}
use native.Mathlib.Omega.{arith}
use lib.Pow.{pow_pos}
use Rattle.values.specs.Newton.{newton_sum, newton_step}
use Rattle.values.proofs.Powers.{pow-mul, bernoulli-low, bernoulli-high}
use Rattle.values.proofs.ExactLaws.{degree}

module _ (j : ℕ) where
  -- The tangent of the k-th power at r lies nowhere above the power: k·t·r^j ≤ t^k + j·r^k.
  ahead : (r d p s : ℕ) → p * r + suc j * (p * d) ≤ s → suc j * ((r + d) * p) ≤ s + j * (p * r)
  ahead r d p s h = omega (arith, h)

  behind : (t d p s : ℕ) → p * (t + d) ≤ s + suc j * (p * d) → suc j * (t * p) ≤ s + j * (p * (t + d))
  behind t d p s h = omega (arith, h)

  tangent : (t r : ℕ) → suc j * (t * r ^ j) ≤ t ^ suc j + j * (r ^ j * r)
  tangent t r = elim (dec_le r t) [
    | yes h ↦
        let e : r + (t - r) ≡ t = omega (arith, h) in
        subst (λ (t : ℕ). suc j * (t * r ^ j) ≤ t ^ suc j + j * (r ^ j * r)) e
        (ahead r (t - r) (r ^ j) ((r + (t - r)) ^ suc j) (rw (pow-suc r j) at (bernoulli-low r (t - r) j)))
    | no n ↦
        let e : t + (r - t) ≡ r = omega (arith, lt_of_not-le n) in
        subst (λ (r : ℕ). suc j * (t * r ^ j) ≤ t ^ suc j + j * (r ^ j * r)) e
        (behind t (r - t) ((t + (r - t)) ^ j) (t ^ suc j) (rw (pow-suc (t + (r - t)) j) at (bernoulli-high t (r - t) j)))
  ]

  -- limit < q·p + p and j·r + q < n·k + k, with the tangent at n + 1
  reach : (limit r q n p s : ℕ) → limit < q * p + p → j * r + q < n * suc j + suc j
      → suc j * ((n + 1) * p) ≤ s + j * (p * r) → limit < s
  reach limit r q n p s l m t =
      let k : j * r + q + 1 ≤ n * suc j + suc j = omega (arith, m) in
      omega (arith, l, mul-le-mul_right p k, t)

  newton_above : (limit r : ℕ) → 0 < r ^ j → limit < ((j * r + limit / r ^ j) / suc j + 1) ^ suc j
  newton_above limit r h =
      reach limit r (limit / r ^ j) ((j * r + limit / r ^ j) / suc j) (r ^ j) _
      (lt-div-mul-add h) (lt-div-mul-add (omega arith)) (tangent _ r)

  newton-sum : (limit r : ℕ) → 0 < r ^ j → limit < r * r ^ j → j * r + limit / r ^ j < suc j * r
  newton-sum limit r h above = let q : limit / r ^ j < r = (div-lt_iff_lt-mul h).1 above in omega (arith, q)

-- The same for a degree k ≥ 1, by the definition of a step.
module _ (k limit r : ℕ) (k-pos : 1 ≤ k) (r-pos : 0 < r) where
  pub step-above : limit < (newton_step k limit r + 1) ^ k
  unfolding newton_step newton_sum
  step-above = let d = degree k k-pos in rw d.1 (newton_above d.0 limit r (one-le-pow d.0 r r-pos))

  -- from above the root: the quotient is below r, and so is what the step comes to
  module _ (above : limit < r ^ k) where
    pub sum-below : newton_sum k limit r < k * r
    unfolding newton_sum
    sum-below =
        let d = degree k k-pos in
        rw d.1 (newton-sum d.0 limit r (one-le-pow d.0 r r-pos) (rw (d.1, pow-succ') at above))

    pub step-closer : newton_step k limit r < r
    unfolding newton_step
    step-closer = (div-lt_iff_lt-mul k-pos).1 (rw mul_comm at sum-below)

-- From 2^p, for a root below 2^(p+1): the quotient is below 2^(p+k).
quotient : (j d limit : ℕ) → 0 < d → limit < (d * 2) ^ suc j → limit / d ^ j < d * 2 ^ suc j
quotient j d limit d-pos h =
    (div-lt_iff_lt-mul (one-le-pow j d d-pos)).1
    (rw (pow-mul d 2 (suc j), pow-succ' d j, mul_right_comm d (d ^ j) (2 ^ suc j)) at h)

pub first-sum : (k p limit : ℕ) → 1 ≤ k → limit < (2 ^ (p + 1)) ^ k → newton_sum k limit (2 ^ p) ≤ 2 ^ p * k + 2 ^ p * 2 ^ k
unfolding newton_sum
first-sum k p limit k-pos h =
    let d = degree k k-pos in
    rw d.1 (omega (arith, quotient d.0 (2 ^ p) limit (pow_pos p) (rw (d.1, add-one p, pow-suc 2 p) at h)))

pub first-power : (r : ℕ) → r ^ 1 ≡ r
first-power r = rw (pow-suc r 0, pow-zero r) (one-mul r)

pub square : (n : ℕ) → n ^ 2 ≡ n * n
square n = rw (pow-suc n 1, first-power n) refl
