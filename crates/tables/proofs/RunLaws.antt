-- Runs: their words differ in B_0 alone, so that they have A, every A_i and all offsets but table 0's in common.
use mathlib.Core.Path.{◌≡◌, refl, sym, ap, ◌∙◌}
use mathlib.Core.List.{List}
use Prim.Native.Nat.{ℕ, ◌+◌, ◌-◌, ◌*◌, ◌/◌, ◌%◌, ◌^◌, ◌≤◌, ◌<◌}
use native.Mathlib.Nat.{add-sub_of_le, add-zero, div-one, div-eq_of_lt, mod-lt}
use native.Mathlib.Omega.{arith}
use lib.IntN.{ℤ, pos, ◌+ℤ◌}
use lib.Pow.{high, low, pow-add, pow_pos, shr-shr, split}
use Rattle.general.specs.Below.{sum_below}
use Rattle.general.proofs.Sums.{sum_mono, signed-congruence}
use Rattle.design.specs.declared.Design.{Design}
use Rattle.design.specs.Cut.{b_of, position, initial_word, segment_word, offset_word}
use Rattle.design.proofs.LegalLaws.{Limits, bits-end}
use Rattle.tables.specs.Inputs.{SameInterval, sum_above}
use Rattle.tables.specs.Sum.{offset_for, sum_from}
use Rattle.tables.proofs.SumLaws.{first-last}

-- B_0 is the lowest bits.
lowest : (d : Design) (x : ℕ) → offset_word d 0 x ≡ x % 2 ^ b_of d 0
unfolding offset_word position sum_below
lowest d x = rw (div-one x)

-- A run begins at each multiple of its size.
pub run-begins : (d : Design) (n : ℕ) → offset_word d 0 (n * 2 ^ b_of d 0) ≡ 0
run-begins d n = lowest d (n * 2 ^ b_of d 0) ∙ rw add-zero at (low n (b_of d 0) {lo = 0} (pow_pos (b_of d 0)))

-- B_0 lies below the cut of A.
pub first-within : (d : Design) → Limits d → b_of d 0 ≤ d.w - d.alpha
first-within d l = omega (arith, bits-end d l 0 l.m-low)

-- An interval is a whole number of runs.
pub interval-runs : (d : Design) → Limits d → 2 ^ (d.w - d.alpha - b_of d 0) * 2 ^ b_of d 0 ≡ 2 ^ (d.w - d.alpha)
interval-runs d l =
    let bits : d.w - d.alpha - b_of d 0 + b_of d 0 ≡ d.w - d.alpha = omega (arith, first-within d l) in
    sym (pow-add 2 (d.w - d.alpha - b_of d 0) (b_of d 0)) ∙ rw bits refl

module _ (d : Design) (l : Limits d) (x B : ℕ) (starts : offset_word d 0 x ≡ 0) (B-lt : B < 2 ^ b_of d 0) where
  whole : x ≡ x / 2 ^ b_of d 0 * 2 ^ b_of d 0
  whole = omega (arith, split x (b_of d 0), sym (lowest d x) ∙ starts)

  -- Bits above B_0 are the same in all words of the run.
  same-high : (e : ℕ) → b_of d 0 ≤ e → (x + B) / 2 ^ e ≡ x / 2 ^ e
  same-high e h =
      let bits : b_of d 0 + (e - b_of d 0) ≡ e = add-sub_of_le h in
      let upper : (x + B) / 2 ^ b_of d 0 ≡ x / 2 ^ b_of d 0 =
      ap (λ (n : ℕ). (n + B) / 2 ^ b_of d 0) whole ∙ high (x / 2 ^ b_of d 0) (b_of d 0) B-lt in
      rw (← bits, ← shr-shr (x + B) (b_of d 0) (e - b_of d 0), ← shr-shr x (b_of d 0) (e - b_of d 0), upper)

  -- The cut of A and of each A_i lies above B_0, and so does each further B_i.
  pub run-initial : initial_word d (x + B) ≡ initial_word d x
  unfolding initial_word
  run-initial = same-high (d.w - d.alpha) (first-within d l)

  run-segment : (i : ℕ) → i < d.m → segment_word d i (x + B) ≡ segment_word d i x
  unfolding segment_word
  run-segment i h = same-high _ (omega (arith, first-within d l, (l.table i h).a-high))

  run-offset : (i : ℕ) → offset_word d (i + 1) (x + B) ≡ offset_word d (i + 1) x
  unfolding offset_word position sum_below
  run-offset i = rw (same-high (sum_below (i + 1) (b_of d)) (omega (arith, sum_mono (b_of d) 1 (i + 1) (omega arith))))

  run-word : x < 2 ^ d.w → x + B < 2 ^ d.w
  run-word h =
      let none : (x + B) / 2 ^ d.w ≡ 0 = same-high d.w (omega (arith, first-within d l)) ∙ div-eq_of_lt h in
      omega (arith, rw none at (split (x + B) d.w), mod-lt (x + B) (pow_pos d.w))

  module _ (entry : ℕ) (offsets : List ℤ) where
    run-other : (i : ℕ) → i < d.m - 1 → offset_for d offsets (x + B) (i + 1) ≡ offset_for d offsets x (i + 1)
    unfolding offset_for
    run-other i h = rw (run-segment (i + 1) (omega arith), run-offset i)

    run-above : sum_above d (pos entry) offsets (x + B) ≡ sum_above d (pos entry) offsets x
    unfolding sum_above
    run-above =
        ap (λ (z : ℤ). pos entry +ℤ z)
        (signed-congruence (d.m - 1) (λ i. offset_for d offsets (x + B) (i + 1)) (λ i. offset_for d offsets x (i + 1)) run-other)

    -- Table 0's offset makes it the word's Y.
    pub run-sum : sum_above d (pos entry) offsets x +ℤ offset_for d offsets (x + B) 0 ≡ sum_from d entry offsets (x + B)
    run-sum = rw (← run-above) (first-last d entry offsets (x + B) l.m-low)

  -- The words of a run lie in one interval.
  pub run-interval : {near : ℕ} → SameInterval d near x → SameInterval d near (x + B)
  run-interval words =
      record { near_word = words.near_word; word = run-word words.word; same = words.same ∙ sym run-initial }
