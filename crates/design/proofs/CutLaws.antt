-- Where words and offsets lie.
use mathlib.Core.Path.{◌≡◌, sym}
use Prim.Native.Nat.{ℕ, zero, suc, ◌+◌, ◌-◌, ◌*◌, ◌/◌, ◌%◌, ◌^◌, ◌≤◌, ◌<◌}
use native.Mathlib.Nat.{add_comm, add-sub_of_le, le_of_lt, mod-lt, mod-one, mul-le-mul_right}
use native.Mathlib.Omega.{arith}
use lib.Pow.{mod-pow-add, pow-add, pow_pos, shr_lt, shr-shr, split}
use Rattle.general.specs.Below.{sum_below}
use Rattle.values.specs.Slopes.{segment_start, segment_end}
use Rattle.values.proofs.SlopeLaws.{OnSegment}
use Rattle.design.specs.declared.Design.{Design}
use Rattle.design.specs.Cut.{a_of, b_of, position, initial_word, segment_word, offset_word}
use Rattle.design.specs.Stored.{initial_count}
use Rattle.design.proofs.LegalLaws.{Limits}

-- The top a of w bits are a number of a bits.
pub top_lt : (x w a : ℕ) → a ≤ w → x < 2 ^ w → x / 2 ^ (w - a) < 2 ^ a
top_lt x w a h lt = shr_lt a (w - a) (rw (add-sub_of_le h) lt)

module _ (d : Design) where
  -- The first n offset words, each at its position, are the low bits of x up to where they end.
  pub low-words : (x n : ℕ) → sum_below n (λ i. offset_word d i x * 2 ^ position d i) ≡ x % 2 ^ position d n
  unfolding sum_below position offset_word
  low-words x zero = sym (mod-one x)
  low-words x (suc n) =
      rw (low-words x n, add_comm (position d n)) (omega (arith, mod-pow-add x (b_of d n) (position d n)))

  -- An offset word of b bits
  pub offset-word-lt : (i x : ℕ) → offset_word d i x < 2 ^ b_of d i
  unfolding offset_word
  offset-word-lt i x = mod-lt (x / 2 ^ position d i) (pow_pos (b_of d i))

-- What legality adds
module _ (d : Design) (l : Limits d) where
  -- x is its initial word, then its offset words.
  pub cut_word : (x : ℕ) → x ≡ initial_word d x * 2 ^ (d.w - d.alpha) + sum_below d.m (λ i. offset_word d i x * 2 ^ position d i)
  unfolding initial_word
  cut_word x = rw (low-words d x d.m, l.cut) (sym (split x (d.w - d.alpha)))

  -- Of an input word, the initial word numbers an initial entry,
  pub initial-word-lt : (x : ℕ) → x < 2 ^ d.w → initial_word d x < initial_count d
  unfolding initial_word initial_count
  initial-word-lt x = top_lt x d.w d.alpha (le_of_lt l.alpha-below)

  -- and a segment word is a number of a bits.
  pub segment-word-lt : (i x : ℕ) → i < d.m → x < 2 ^ d.w → segment_word d i x < 2 ^ a_of d i
  unfolding segment_word
  segment-word-lt i x h = top_lt x d.w (a_of d i) (omega (arith, (l.table i h).a-high, l.alpha-below))

-- X lies on the segment of the top a bits of its word,
pub word-on-segment : (w a x : ℕ) → OnSegment w a (x / 2 ^ (w - a)) (2 ^ w + x)
unfolding segment_start segment_end
word-on-segment w a x =
    record {
      from = omega (arith, split x (w - a));
      to = omega (arith, split x (w - a), mod-lt x (pow_pos (w - a)));
    }

-- and a segment of t + r low bits contains each of its segments of t.
coarser : (t r x : ℕ) → let y = x / 2 ^ t in let z = x / 2 ^ (t + r) in
    (z * 2 ^ (t + r) ≤ y * 2 ^ t) × (y * 2 ^ t + 2 ^ t ≤ z * 2 ^ (t + r) + 2 ^ (t + r))
coarser t r x =
    rw (← shr-shr x t r, pow-add 2 t r)
    (let y = x / 2 ^ t in
    let parts = split y r in
    let rest = mod-lt y (pow_pos r) in
    let below : y / 2 ^ r * 2 ^ r ≤ y = omega arith in
    let above : y + 1 ≤ y / 2 ^ r * 2 ^ r + 2 ^ r = omega arith in
    (omega (arith, mul-le-mul_right (2 ^ t) below), omega (arith, mul-le-mul_right (2 ^ t) above)))

-- So the interval of A lies within the segment of each A_i.
pub segment-within : (w alpha a x X : ℕ) → a ≤ alpha → alpha ≤ w → OnSegment w alpha (x / 2 ^ (w - alpha)) X
    → OnSegment w a (x / 2 ^ (w - a)) X
unfolding segment_start segment_end
segment-within w alpha a x X fewer within on =
    let e : w - alpha + (alpha - a) ≡ w - a = omega arith in
    let c = rw e at (coarser (w - alpha) (alpha - a) x) in
    record { from = omega (arith, on.from, c.0); to = omega (arith, on.to, c.1, pow_pos (w - alpha)) }
