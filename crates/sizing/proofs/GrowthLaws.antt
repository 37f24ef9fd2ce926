-- A table's size grows with its b and with its a, at one position. With more segments the largest Hi + Lo does not fall below half of it, so
-- an offset loses one bit at most, while there are twice as many.
use mathlib.Core.Path.{◌≡◌, sym, ap, ◌∙◌}
use Prim.Native.Nat.{ℕ, suc, ◌+◌, ◌-◌, ◌*◌, ◌/◌, ◌^◌, ◌≤◌, ◌<◌}
use native.Mathlib.Nat.{le_trans, mul_assoc, mul-le-mul, mul-le-mul_left, mul-le-mul_right, pow-suc}
use native.Mathlib.Decide.{dec_lt}
use native.Mathlib.Omega.{arith}
use lib.Pow.{pow-add, pow_mono, pow_pos, shl_lt, shr_mono}
use Rattle.general.proofs.Sums.{largest-above, largest-reached}
use Rattle.values.specs.declared.rows.Row.{Row}
use Rattle.values.specs.Inputs.{SlopeInput}
use Rattle.values.specs.Slopes.{segment_start, slope_sum, largest_sum}
use Rattle.values.proofs.Bounds.{ordered}
use Rattle.entries.specs.Entries.{magnitude}
use Rattle.sizing.specs.Widest.{widest_offset, bits_for}
use Rattle.sizing.proofs.BitsLaws.{bits-low, bits_mono, bits-double}

-- Each segment of a bits begins where one of more bits does.
module _ (w a c A : ℕ) (more : a ≤ c) (within : c ≤ w) where
  begins : segment_start w c (A * 2 ^ (c - a)) ≡ segment_start w a A
  unfolding segment_start
  begins =
      let all : c - a + (w - c) ≡ w - a = omega arith in
      ap (λ n. 2 ^ w + n) (mul_assoc A (2 ^ (c - a)) (2 ^ (w - c)) ∙ ap (λ n. A * n) (rw all at (sym (pow-add 2 (c - a) (w - c)))))

  begins-lt : A < 2 ^ a → A * 2 ^ (c - a) < 2 ^ c
  begins-lt A-lt = let all : a + (c - a) ≡ c = omega arith in rw all at (shl_lt a (c - a) A-lt)

-- Lo is no more than Hi, so the sum there is at least half of this one.
sum-half : (row : Row) (w P a c : ℕ) → SlopeInput row w P a → a ≤ c → c ≤ w → largest_sum row w P a ≤ 2 * largest_sum row w P c
unfolding largest_sum slope_sum
sum-half row w P a c fit more within =
    let steepest = largest-reached (2 ^ a) (slope_sum row w P a) (pow_pos a) in
    let A = steepest.0 in
    let there = largest-above (2 ^ c) (slope_sum row w P c) (A * 2 ^ (c - a)) (begins-lt w a c A more within steepest.1) in
    omega (arith, steepest.2, (ordered row w P a A fit steepest.1).1, rw (begins w a c A more within) at there)

-- T grows with the slopes and with b, and with half the slopes it is half, or one less.
widest-mono : (s b c p : ℕ) → b ≤ c → widest_offset s b p ≤ widest_offset s c p
unfolding magnitude widest_offset
widest-mono s b c p more =
    shr_mono 18 (mul-le-mul_right (2 ^ p) (mul-le-mul_left s (omega (arith, pow_mono {i = b} {j = c} more))))

halved : (n k : ℕ) → n ≤ 2 * k → n / 2 ^ 18 ≤ 2 * (k / 2 ^ 18) + 1
halved n k h = omega arith

widest-half : (s t b p : ℕ) → s ≤ 2 * t → widest_offset s b p ≤ 2 * widest_offset t b p + 1
unfolding magnitude widest_offset
widest-half s t b p h =
    halved (s * (2 ^ b - 1) * 2 ^ p) (t * (2 ^ b - 1) * 2 ^ p)
    (omega (arith, mul-le-mul_right (2 ^ p) (mul-le-mul_right (2 ^ b - 1) h)))

-- The size of a table, by its numbers
abbrev pub size_by : ℕ → ℕ → ℕ → ℕ → ℕ
size_by slopes a b p = 2 ^ (a + b) * bits_for (widest_offset slopes b p)

grows-b : (s a b c p : ℕ) → b ≤ c → size_by s a b p ≤ size_by s a c p
grows-b s a b c p more =
    mul-le-mul (pow_mono {i = a + b} {j = a + c} (omega arith)) (bits_mono _ _ (widest-mono s b c p more))

grows-a : (s t a c b p : ℕ) → s ≤ 2 * t → a < c → size_by s a b p ≤ size_by t c b p
grows-a s t a c b p h more =
    let n = bits_for (widest_offset t b p) in
    let wider : bits_for (widest_offset s b p) ≤ 2 * n
    = omega (arith, bits_mono _ _ (widest-half s t b p h), bits-double (widest_offset t b p), bits-low (widest_offset t b p)) in
    let twice : 2 * 2 ^ (a + b) ≤ 2 ^ (c + b)
    = omega (arith, pow-suc 2 (a + b), pow_mono {i = suc (a + b)} {j = c + b} (omega arith)) in
    omega (arith, mul-le-mul_left (2 ^ (a + b)) wider, mul-le-mul_right n twice)

pub grows : (row : Row) (w P a b c e p : ℕ) → SlopeInput row w P a → a ≤ c → c ≤ w → b ≤ e
    → size_by (largest_sum row w P a) a b p ≤ size_by (largest_sum row w P c) c e p
grows row w P a b c e p fit a-more within b-more =
    elim (dec_lt a c) [
      | yes below ↦ le_trans (grows-b _ a b e p b-more) (grows-a _ _ a c e p (sum-half row w P a c fit a-more within) below)
      | no not ↦ let same : a ≡ c = omega arith in rw same (grows-b (largest_sum row w P c) c b e p b-more)
    ]
