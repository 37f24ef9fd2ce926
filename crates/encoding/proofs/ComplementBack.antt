-- A signed number and its two's complement in n bytes: each is got back from the other.
use mathlib.Core.Path.{◌≡◌, ap, ◌∙◌}
use mathlib.Core.Bool.{true}
use Prim.Native.Nat.{ℕ, suc, ◌-◌, ◌*◌, ◌^◌, ◌≤◌, ◌<◌}
use native.Mathlib.Nat.{pow-suc}
use native.Mathlib.Omega.{arith}
use native.Mathlib.Decide.{dec_lt}
use lib.IntN.{ℤ, pos, negsuc}
use borrow.Author.Tests.{ltb-true, lt-ltb, le-ltb}
use Rattle.encoding.specs.Bytes.{complement, from_complement, fits_signed}

-- The numbers of n bytes are two halves.
halves : (n : ℕ) → 1 ≤ n → 2 ^ (8 * n) ≡ 2 ^ (8 * n - 1) * 2
halves n h = let more : 8 * n ≡ suc (8 * n - 1) = omega arith in ap (λ bits. 2 ^ bits) more ∙ pow-suc 2 (8 * n - 1)

-- The lower half stands for itself, the upper half for what is negative.
module _ (n v : ℕ) where
  from-lower : v < 2 ^ (8 * n - 1) → from_complement n v ≡ pos v
  unfolding from_complement
  from-lower h = rw (lt-ltb _ _ h)

  from-upper : 2 ^ (8 * n - 1) ≤ v → from_complement n v ≡ negsuc (2 ^ (8 * n) - 1 - v)
  unfolding from_complement
  from-upper h = rw (le-ltb _ _ h)

-- What fits n bytes is written as a number that fits n bytes.
pub complement-lt : (n : ℕ) (z : ℤ) → 1 ≤ n → fits_signed n z ≡ true → complement n z < 2 ^ (8 * n)
unfolding complement fits_signed
complement-lt n (pos v) some fits = omega (arith, ltb-true v (2 ^ (8 * n - 1)) fits, halves n some)
complement-lt n (negsuc v) some fits = omega (arith, ltb-true v (2 ^ (8 * n - 1)) fits, halves n some)

-- A signed number that fits n bytes is read again from what it is written as.
pub complement-back : (n : ℕ) (z : ℤ) → 1 ≤ n → fits_signed n z ≡ true → from_complement n (complement n z) ≡ z
unfolding complement fits_signed
complement-back n (pos v) some fits = from-lower n v (ltb-true _ _ fits)
complement-back n (negsuc v) some fits =
    let below : v < 2 ^ (8 * n - 1) = ltb-true _ _ fits in
    let two : 2 ^ (8 * n) ≡ 2 ^ (8 * n - 1) * 2 = halves n some in
    let twice : 2 ^ (8 * n) - 1 - (2 ^ (8 * n) - 1 - v) ≡ v = omega arith in
    from-upper n (2 ^ (8 * n) - 1 - v) (omega arith) ∙ ap negsuc twice

module _ (n v : ℕ) where
  -- What n bytes stand for fits n bytes.
  pub complement-fits : 1 ≤ n → v < 2 ^ (8 * n) → fits_signed n (from_complement n v) ≡ true
  unfolding fits_signed
  complement-fits some h =
      elim (dec_lt v (2 ^ (8 * n - 1))) [
        | yes lower ↦ rw (from-lower n v lower) (lt-ltb _ _ lower)
        | no upper ↦
            rw (from-upper n v (omega arith))
            (lt-ltb (2 ^ (8 * n) - 1 - v) (2 ^ (8 * n - 1)) (omega (arith, halves n some)))
      ]

  -- A number that fits n bytes is what the signed number that it stands for is written as.
  pub complement-again : 1 ≤ n → v < 2 ^ (8 * n) → complement n (from_complement n v) ≡ v
  unfolding complement
  complement-again some h =
      elim (dec_lt v (2 ^ (8 * n - 1))) [
        | yes lower ↦ rw (from-lower n v lower)
        | no upper ↦ rw (from-upper n v (omega arith)) (omega arith)
      ]
