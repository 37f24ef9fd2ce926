-- How many bits hold T and -1 - T: T's binary digits and one bit more. They grow with T, by one where T doubles.
use mathlib.Core.Path.{◌≡◌}
use Prim.Native.Nat.{ℕ, suc, ◌+◌, ◌-◌, ◌*◌, ◌^◌, ◌≤◌, ◌<◌}
use native.Mathlib.Nat.{le_antisymm, lt_of_le_of_lt, pow-suc}
use native.Mathlib.Decide.{dec_lt}
use native.Mathlib.Omega.{arith}
use borrow.Author.Tests.{ltb-true, lt-ltb}
use lib.Dec.{ltb}
use lib.Pow.{pow_mono}
use Rattle.general.specs.Digits.{Digits}
use Rattle.general.proofs.FirstLaws.{first-low, first-high, first_passes, first-least}
use Rattle.sizing.specs.Width.{most_bits}
use Rattle.sizing.specs.Widest.{bits_for}

-- 2^n is twice 2^(n-1).
twice : (n : ℕ) → 1 ≤ n → 2 ^ (n - 1) * 2 ≡ 2 ^ n
twice n one = let back : suc (n - 1) ≡ n = omega arith in omega (arith, rw back at (pow-suc 2 (n - 1)))

module _ (T : ℕ) where
  pub bits-low : 1 ≤ bits_for T
  unfolding bits_for
  bits-low = first-low 1 (most_bits - 1) (λ n. ltb T (2 ^ (n - 1)))

  pub bits-high : bits_for T ≤ most_bits
  unfolding bits_for
  bits-high = first-high 1 (most_bits - 1) (λ n. ltb T (2 ^ (n - 1)))

  -- They hold T, if so many are tried,
  pub bits-enough : bits_for T < most_bits → T < 2 ^ (bits_for T - 1)
  unfolding bits_for
  bits-enough tried = ltb-true _ _ (first_passes 1 (most_bits - 1) (λ n. ltb T (2 ^ (n - 1))) tried)

  -- and no fewer do.
  pub bits-fewest : (n : ℕ) → 1 ≤ n → T < 2 ^ (n - 1) → bits_for T ≤ n
  unfolding bits_for
  bits-fewest n one enough = first-least 1 (most_bits - 1) (λ n. ltb T (2 ^ (n - 1))) n one (lt-ltb _ _ enough)

  pub bits-counted : (count : ℕ) → Digits T count → count < most_bits → bits_for T ≡ count + 1
  bits-counted count digits few = le_antisymm high low where
    high : bits_for T ≤ count + 1
    high = bits-fewest (count + 1) (omega arith) (let back : count + 1 - 1 ≡ count = omega arith in rw back digits.enough)

    low : count + 1 ≤ bits_for T
    low =
        elim (dec_lt (bits_for T) (count + 1)) [
          | yes below ↦ absurd
              (omega (
                arith,
                bits-enough (omega arith),
                twice (bits_for T) bits-low,
                pow_mono {i = bits_for T} {j = count} (omega arith),
                digits.fewest,
              ))
          | no above ↦ omega arith
        ]

pub bits_mono : (T U : ℕ) → T ≤ U → bits_for T ≤ bits_for U
bits_mono T U more =
    elim (dec_lt (bits_for U) most_bits) [
      | yes tried ↦ bits-fewest T (bits_for U) (bits-low U) (lt_of_le_of_lt more (bits-enough U tried))
      | no all ↦ omega (arith, bits-high T)
    ]

pub bits-double : (T : ℕ) → bits_for (2 * T + 1) ≤ bits_for T + 1
bits-double T =
    elim (dec_lt (bits_for T) most_bits) [
      | yes tried ↦ bits-fewest (2 * T + 1) (bits_for T + 1) (omega arith)
          (let back : bits_for T + 1 - 1 ≡ bits_for T = omega arith in
          rw back (omega (arith, bits-enough T tried, twice (bits_for T) (bits-low T))))
      | no all ↦ omega (arith, bits-high (2 * T + 1))
    ]
