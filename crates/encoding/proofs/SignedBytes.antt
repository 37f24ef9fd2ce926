-- Signed numbers in an entry's bytes: what the tests of their range tell, and what is added or taken where they are negative.
use mathlib.Core.Path.{◌≡◌, refl, sym, ap, ◌∙◌}
use mathlib.Core.Bool.{Bool, true, false, cond, true≢false}
use Prim.Native.Nat.{ℕ, ◌-◌, ◌*◌, ◌^◌, ◌≤◌, ◌<◌}
use native.Mathlib.Omega.{arith}
use borrow.Author.Tests.{leb-true, leb-false, lt-ltb, le-ltb}
use lib.Dec.{ltb}
use lib.IntN.{ℤ, pos, negsuc, ◌-ℤ◌}
use lib.Signed.{mag, lt_z, le_z}
use Rattle.encoding.specs.Bytes.{entry_bytes, from_complement, fits_signed}

-- How many numbers an entry's bytes hold, and half as many
abbrev pub whole : ℕ
whole = 2 ^ (8 * entry_bytes)

abbrev pub half : ℕ
half = 2 ^ (8 * entry_bytes - 1)

-- A number that is not too low fits where it is not too high,
pub low-enough : (v : ℤ) → le_z (negsuc (half - 1)) v ≡ true → lt_z v (pos half) ≡ fits_signed entry_bytes v
unfolding fits_signed
low-enough (pos n) e = refl
low-enough (negsuc n) e = sym (lt-ltb n half (omega (arith, leb-true n (half - 1) e)))

-- and one that is too low does not.
pub too-low : (v : ℤ) → le_z (negsuc (half - 1)) v ≡ false → le_z (negsuc (half - 1)) v ≡ fits_signed entry_bytes v
unfolding fits_signed
too-low (pos n) e = absurd (true≢false e)
too-low (negsuc n) e = e ∙ sym (le-ltb n half (omega (arith, leb-false n (half - 1) e)))

-- The lower half of the numbers are what they are, and the upper half are the whole less.
pub lower-half : (n : ℕ) → n < half → pos n ≡ from_complement entry_bytes n
unfolding from_complement
lower-half n h = rw (lt-ltb n half h)

pub upper-half : (n : ℕ) → half ≤ n → n < whole → pos n -ℤ pos whole ≡ from_complement entry_bytes n
unfolding from_complement
upper-half n h k = rw (le-ltb n half h, lt-ltb n whole k) (ap negsuc (omega arith))

-- Each of them fits 32 bits.
within : (n : ℕ) (t : Bool) → n < whole → mag (cond t (pos n) (negsuc (whole - 1 - n))) < 2 ^ 31
within n true h = omega arith
within n false h = omega arith

pub from-complement-fits : (n : ℕ) → n < whole → mag (from_complement entry_bytes n) < 2 ^ 31
unfolding from_complement
from-complement-fits n h = within n (ltb n half) h
