-- Steps in the direction in which the exact value rises: from u to u + t for the sign +, from v + t to v for the sign -. If h is at
-- least the slope, h·t is at least what the exact value gains, and if h is at most the slope, at most that. In units of 2^-18 table
-- units.
use mathlib.Core.Path.{◌≡◌}
use mathlib.Core.Bool.{Bool, true, false, cond}
use Prim.Native.Nat.{ℕ, suc, ◌+◌, ◌*◌, ◌^◌, ◌≤◌, ◌<◌}
use native.Mathlib.Nat.{
  le_refl,
  le_trans,
  le_of_lt,
  lt_of_not-le,
  mul-le-mul,
  mul-le-mul_left,
  mul-le-mul_right,
  le_of_mul-le-mul_right,
  le-add_right,
  pow-le-pow_left,
}
use native.Mathlib.Decide.{dec_le}
use native.Mathlib.Omega.{arith}
use Rattle.values.specs.declared.rows.Row.{Row}
use Rattle.values.specs.Rows.{Lawful}
use Rattle.values.specs.Exact.{num, den, number_side, value_side, AtMost, AtLeast}
use Rattle.values.proofs.Powers.{product-low, product_high}
use Rattle.values.proofs.ExactLaws.{degree}
use Rattle.values.proofs.SlopeLaws.{Steeper, Flatter}

-- v lies t further in the direction in which the exact value rises
abbrev pub Rises : Bool → ℕ → ℕ → ℕ → Type 0
Rises true u t v = v ≡ u + t
Rises false u t v = u ≡ v + t

-- In plain numbers: F is (2^k)^(P+18), c and d = 2^w make num and den, k is suc j.
module _ (F c d j h t : ℕ) where
  -- sign +, from u to u + t
  module _ (u : ℕ) (u-pos : 0 < u) where
    gain-up : (a b : ℕ) → b ≤ a → b ≤ suc j * h * u → F * (c * u) ≤ b ^ suc j * d → F * (c * (u + t)) ≤ (a + h * t) ^ suc j * d
    gain-up a b b-le flat start =
        le_of_mul-le-mul_right {k = u}
        (omega (
          arith,
          mul-le-mul_right (u + t) start,
          mul-le-mul_right d (product-low b h u t j flat),
          mul-le-mul_right (u * d) (pow-le-pow_left {n = b + h * t} {m = a + h * t} (omega arith) (suc j)),
        ))
        u-pos

    up-rising : (a : ℕ) → F * (c * u) ≤ a ^ suc j * d → F * (c * u) ≤ (suc j * h * u) ^ suc j * d
        → F * (c * (u + t)) ≤ (a + h * t) ^ suc j * d
    up-rising a start steep =
        elim (dec_le a (suc j * h * u)) [
          | yes p ↦ gain-up a a (le_refl a) p start
          | no n ↦ gain-up a (suc j * h * u) (le_of_lt (lt_of_not-le n)) (le_refl _) steep
        ]

    down-rising : (a : ℕ) → a ^ suc j * d ≤ F * (c * u) → (suc j * h * (u + t)) ^ suc j * d ≤ F * (c * (u + t))
        → (a + h * t) ^ suc j * d ≤ F * (c * (u + t))
    down-rising a start flat =
        elim (dec_le (suc j * h * (u + t)) (a + h * t)) [
          | yes p ↦
              le_of_mul-le-mul_right {k = u}
              (omega (arith, mul-le-mul_right (u + t) start, mul-le-mul_right d (product_high a h u t j p)))
              u-pos
          | no n ↦ le_trans (mul-le-mul_right d (pow-le-pow_left (le_of_lt (lt_of_not-le n)) (suc j))) flat
        ]

  -- sign -, from v + t to v
  module _ (v : ℕ) where
    up-falling : (a : ℕ) → F * d ≤ a ^ suc j * (c * (v + t)) → F * d ≤ (suc j * h * v) ^ suc j * (c * v)
        → F * d ≤ (a + h * t) ^ suc j * (c * v)
    up-falling a start steep =
        elim (dec_le a (suc j * h * v)) [
          | yes p ↦ omega (arith, start, mul-le-mul_right c (product-low a h v t j p))
          | no n ↦
              le_trans steep
              (mul-le-mul_right (c * v)
              (pow-le-pow_left (le_trans (le_of_lt (lt_of_not-le n)) (le-add_right a (h * t))) (suc j)))
        ]

    down-falling : (a : ℕ) → a ^ suc j * (c * (v + t)) ≤ F * d → (suc j * h * (v + t)) ^ suc j * (c * (v + t)) ≤ F * d
        → (a + h * t) ^ suc j * (c * v) ≤ F * d
    down-falling a start flat =
        elim (dec_le (suc j * h * (v + t)) (a + h * t)) [
          | yes p ↦ omega (arith, start, mul-le-mul_right c (product_high a h v t j p))
          | no n ↦
              le_trans
              (mul-le-mul (pow-le-pow_left (le_of_lt (lt_of_not-le n)) (suc j)) (mul-le-mul_left c (le-add_right v t)))
              flat
        ]

  -- Either sign. `up` is the bound from above, `down` the one from below.
  step-up : (rising : Bool) (u v a : ℕ) → 0 < u → Rises rising u t v
      → F * cond rising (c * u) d ≤ a ^ suc j * cond rising d (c * u)
      → F * cond rising (c * u) d ≤ (suc j * h * u) ^ suc j * cond rising d (c * u)
      → F * cond rising (c * v) d ≤ (suc j * h * v) ^ suc j * cond rising d (c * v)
      → F * cond rising (c * v) d ≤ (a + h * t) ^ suc j * cond rising d (c * v)
  step-up true u v a u-pos e start at-u at-v = rw e (up-rising u u-pos a start at-u)
  step-up false u v a u-pos e start at-u at-v = up-falling v a (rw e at start) at-v

  step_down : (rising : Bool) (u v a : ℕ) → 0 < u → Rises rising u t v
      → a ^ suc j * cond rising d (c * u) ≤ F * cond rising (c * u) d
      → (suc j * h * u) ^ suc j * cond rising d (c * u) ≤ F * cond rising (c * u) d
      → (suc j * h * v) ^ suc j * cond rising d (c * v) ≤ F * cond rising (c * v) d
      → (a + h * t) ^ suc j * cond rising d (c * v) ≤ F * cond rising (c * v) d
  step_down true u v a u-pos e start at-u at-v = rw e (down-rising u u-pos a start (rw e at at-v))
  step_down false u v a u-pos e start at-u at-v = down-falling v a (rw e at start) (rw e at at-u)

module _ (row : Row) (lawful : Lawful row) (w P h t u v a : ℕ) (u-pos : 0 < u) (step : Rises row.rising u t v) where
  pub gain-at-most : Steeper row w P u h → Steeper row w P v h → AtLeast row w (P + 18) u a → AtLeast row w (P + 18) v (a + h * t)
  unfolding number_side value_side num den
  gain-at-most at-u at-v start =
      let k = degree row.k lawful.k-pos in
      rw k.1 (step-up _ row.c (2 ^ w) k.0 h t row.rising u v a u-pos step
      (rw k.1 at start) (rw k.1 at at-u) (rw k.1 at at-v))

  pub gain-at-least : Flatter row w P u h → Flatter row w P v h → AtMost row w (P + 18) u a → AtMost row w (P + 18) v (a + h * t)
  unfolding number_side value_side num den
  gain-at-least at-u at-v start =
      let k = degree row.k lawful.k-pos in
      rw k.1 (step_down _ row.c (2 ^ w) k.0 h t row.rising u v a u-pos step
      (rw k.1 at start) (rw k.1 at at-u) (rw k.1 at at-v))
