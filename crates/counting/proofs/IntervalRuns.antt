-- The runs of an interval, one after another: where each begins, and what its words have in common with those of the interval.
use mathlib.Core.Path.{◌≡◌, refl}
use Prim.Native.Nat.{ℕ, ◌+◌, ◌-◌, ◌*◌, ◌^◌, ◌≤◌, ◌<◌}
use native.Mathlib.Nat.{mul-le-mul_right}
use native.Mathlib.Omega.{arith}
use lib.Pow.{pow_pos}
use Rattle.values.specs.Room.{word_bound}
use Rattle.design.specs.declared.Design.{Design}
use Rattle.design.specs.Cut.{b_of, initial_word, offset_word}
use Rattle.design.specs.Stored.{initial_count}
use Rattle.design.proofs.LegalLaws.{Limits}
use Rattle.tables.specs.declared.lookups.Lookups.{Lookups}
use Rattle.tables.specs.Inputs.{SameInterval}
use Rattle.tables.specs.Lookup.{lookup_of, lookups_of}
use Rattle.tables.proofs.LookupLaws.{looked}
use Rattle.tables.proofs.IntervalLaws.{Intervals, power_small, intervals-of, interval-word, one-interval, start-inside}
use Rattle.tables.proofs.RunLaws.{run-begins, first-within, interval-runs}

-- The bits of B_0, as the lookup of table 0 has them
pub first-bits : (d : Design) {lookups : Lookups} → lookups ≡ lookups_of d → lookups.first.b ≡ b_of d 0
unfolding lookup_of
first-bits d e = rw (looked {d = d} e).first-is refl

-- How many runs an interval has, of how many words each
pub record Runs (d : Design) (runs size : ℕ) : Type 0 where
  pub size_is : size ≡ 2 ^ b_of d 0
  pub size-pos : 0 < size
  pub rests-is : runs * size ≡ 2 ^ (d.w - d.alpha)
  pub intervals : Intervals d (initial_count d) (runs * size)
  pub runs-small : runs ≤ word_bound
  pub size_small : size ≤ word_bound

module _ {d : Design} (l : Limits d) where
  pub runs_of : {b runs size : ℕ} → b ≡ b_of d 0 → runs ≡ 2 ^ (d.w - d.alpha - b) → size ≡ 2 ^ b → Runs d runs size
  unfolding initial_count
  runs_of {b} {runs} {size} bits runs-told size-told =
      let runs-is : runs ≡ 2 ^ (d.w - d.alpha - b_of d 0) = rw bits at runs-told in
      let size_is : size ≡ 2 ^ b_of d 0 = rw bits at size-told in
      let rests-is : runs * size ≡ 2 ^ (d.w - d.alpha) = rw (runs-is, size_is) (interval-runs d l) in
      record {
        size_is = size_is;
        size-pos = rw size_is (pow_pos (b_of d 0));
        rests-is = rests-is;
        intervals = intervals-of d l refl rests-is;
        runs-small = rw runs-is (power_small d l _ (omega arith));
        size_small = rw size_is (power_small d l _ (omega (arith, first-within d l)));
      }

-- Run `number` of an interval
module _ {d : Design} {runs size : ℕ} (r : Runs d runs size) {interval : ℕ} (h : interval < initial_count d) where
  pub start_small : interval * (runs * size) ≤ word_bound
  start_small = omega (arith, start-inside r.intervals h, r.intervals.words_small)

  module _ {number : ℕ} (k : number < runs) where
    inside : number * size < runs * size
    inside = omega (arith, r.size-pos, mul-le-mul_right size k)

    pub one-run : SameInterval d (interval * (runs * size)) (interval * (runs * size) + number * size)
    one-run = one-interval r.intervals h inside

    pub begins : offset_word d 0 (interval * (runs * size) + number * size) ≡ 0
    begins =
        let whole : interval * (runs * size) + number * size ≡ (interval * runs + number) * size = omega arith in
        rw (whole, r.size_is) (run-begins d (interval * runs + number))

    pub entry-number : initial_word d (interval * (runs * size) + number * size) ≡ interval
    entry-number = interval-word interval (number * size) r.intervals inside

    pub word_small : interval * (runs * size) + number * size < word_bound
    word_small = omega (arith, one-run.word, r.intervals.words_small)
