-- The intervals, each the words of one initial entry: how many there are, and what their words have in common.
use mathlib.Core.Path.{◌≡◌, refl, sym, ◌∙◌}
use Prim.Native.Nat.{ℕ, ◌+◌, ◌-◌, ◌*◌, ◌^◌, ◌≤◌, ◌<◌}
use native.Mathlib.Nat.{add-sub_of_le, add-zero, le_of_lt, le_trans, mul-le-mul_right}
use native.Mathlib.Omega.{arith}
use lib.Pow.{high, pow-add, pow_mono}
use Rattle.values.specs.Room.{widest_word, word_bound}
use Rattle.design.specs.declared.Design.{Design}
use Rattle.design.specs.Cut.{initial_word}
use Rattle.design.specs.Stored.{initial_count}
use Rattle.design.proofs.LegalLaws.{Limits}
use Rattle.tables.specs.Inputs.{SameInterval}

-- How many intervals there are, and words in each: all 2^w words.
pub record Intervals (d : Design) (intervals rests : ℕ) : Type 0 where
  pub intervals-is : intervals ≡ initial_count d
  pub rests-is : rests ≡ 2 ^ (d.w - d.alpha)
  pub product : intervals * rests ≡ 2 ^ d.w
  pub words_small : 2 ^ d.w ≤ word_bound
  pub intervals-small : intervals ≤ word_bound
  pub rests-small : rests ≤ word_bound

module _ (d : Design) (l : Limits d) where
  pub power_small : (n : ℕ) → n ≤ d.w → 2 ^ n ≤ word_bound
  power_small n h = pow_mono {j = widest_word} (le_trans h l.widths.room.w-small)

  pub intervals-fit : 2 ^ d.alpha ≤ word_bound
  intervals-fit = power_small d.alpha (le_of_lt l.alpha-below)

  pub rests-fit : 2 ^ (d.w - d.alpha) ≤ word_bound
  rests-fit = power_small (d.w - d.alpha) (omega arith)

  pub intervals-of : {intervals rests : ℕ} → intervals ≡ 2 ^ d.alpha → rests ≡ 2 ^ (d.w - d.alpha) → Intervals d intervals rests
  unfolding initial_count
  intervals-of intervals-is rests-is =
      record {
        intervals-is = intervals-is;
        rests-is = rests-is;
        product = rw (intervals-is, rests-is, ← pow-add 2 d.alpha (d.w - d.alpha), add-sub_of_le (le_of_lt l.alpha-below)) refl;
        words_small = pow_mono l.widths.room.w-small;
        intervals-small = omega (arith, intervals-fit);
        rests-small = omega (arith, rests-fit);
      }

-- An interval begins before the last word's end, and each of its words is one of them.
pub start-inside : {d : Design} {intervals rests interval : ℕ} → Intervals d intervals rests → interval < intervals
    → interval * rests ≤ 2 ^ d.w
start-inside {rests} n h = omega (arith, n.product, mul-le-mul_right rests h)

word-inside : {d : Design} {intervals rests interval rest : ℕ} → Intervals d intervals rests → interval < intervals → rest < rests
    → interval * rests + rest < 2 ^ d.w
word-inside {rests} n h k = omega (arith, n.product, mul-le-mul_right rests h)

-- The initial word of each is the interval's number, so each lies in one interval with the first.
pub interval-word : {d : Design} {intervals rests : ℕ} (interval rest : ℕ) → Intervals d intervals rests → rest < rests
    → initial_word d (interval * rests + rest) ≡ interval
unfolding initial_word
interval-word {d} interval rest n k =
    rw n.rests-is (high interval (d.w - d.alpha) (rw n.rests-is at k))

pub one-interval : {d : Design} {intervals rests interval rest : ℕ} → Intervals d intervals rests → interval < intervals → rest < rests
    → SameInterval d (interval * rests) (interval * rests + rest)
one-interval {d} {rests} {interval} {rest} n h k =
    let inside = word-inside n h k in
    let first : initial_word d (interval * rests) ≡ interval = rw add-zero at (interval-word interval 0 n (omega arith)) in
    record {
      near_word = omega (arith, inside);
      word = inside;
      same = first ∙ sym (interval-word interval rest n k);
    }
