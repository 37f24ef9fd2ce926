-- Demand 3, whole: every admitted design, all filled tables, every input word.
use Rattle.std.specs.Prelude.{Ok, None}
use mathlib.Core.Path.{◌≡◌, refl, sym, ◌∙◌}
use mathlib.Core.Bool.{false}
use mathlib.Core.List.{List, [], ◌∷◌, ◌++◌, map}
use Prim.Native.Nat.{ℕ, zero, suc, ◌+◌, ◌-◌, ◌*◌, ◌/◌, ◌^◌, ◌≤◌, ◌<◌}
use native.Mathlib.Nat.{le_of_suc-le-suc, not-suc-le-zero}
use native.Mathlib.Omega.{arith}
use lib.ListN.{length, get_or, drop, length-map, get_or-append}
use lib.IntN.{ℤ, pos}
use lib.Pow.{pow-add}
use borrow.Author.Tests.{le-ltb, lt-leb}
use Rattle.general.specs.Below.{sum_below}
use Rattle.general.proofs.Sums.{signed-congruence}
use Rattle.refusal.specs.Checks.{verdict}
use Rattle.refusal.proofs.Checks.{verdict-append}
use Rattle.values.specs.Inputs.{InRange}
use Rattle.values.specs.Value.{word_check}
use Rattle.values.proofs.ExactLaws.{value_low}
use Rattle.values.proofs.Document.{said}
use Rattle.design.specs.declared.Design.{Design}
use Rattle.design.specs.Stored.{stored_index, offset_place}
use Rattle.design.specs.Cut.{row, fraction_bits, initial_word, segment_word, offset_word}
use Rattle.design.specs.Budget.{budget, limit, Admitted}
use Rattle.design.proofs.StoredLaws.{index-lt}
use Rattle.design.proofs.LegalLaws.{Limits, limits, lawful}
use Rattle.design.proofs.CutLaws.{initial-word-lt, segment-word-lt, offset-word-lt}
use Rattle.entries.specs.Entries.{initial_at}
use Rattle.entries.proofs.MeaningLaws.{stored_back}
use Rattle.tables.specs.Inputs.{Usable}
use Rattle.tables.specs.Sum.{offset_for, sum_at, sum_outside, word_of, word_at}
use Rattle.tables.specs.Set.{set_checks}
use Rattle.tables.proofs.SetLaws.{set-passed}
use Rattle.filling.specs.Fill.{Filled, stored_offset}
use Rattle.filling.proofs.EntryLaws as EntryLaws
use Rattle.evaluating.specs.Evaluate.{word_checks, evaluate_verdict, evaluate_answer}
use Rattle.evaluating.specs.Batch.{output_check, room_verdict, place_verdict, batch_answer, output_after}
use Rattle.evaluating.proofs.BatchLaws.{batch-all}
use Rattle.checking.specs.Check.{check_verdict, check_answer}
use Rattle.checking.proofs.CheckLaws.{check-means}
use Rattle.error_bound.specs.ErrorBound.{margin, scaled_word, WordHolds, BatchHolds, ErrorBound}
use Rattle.error_bound.proofs.Totals.{added, taken, total-balance, not_negative}
use Rattle.error_bound.proofs.SumBound.{written_offset, sum_low, sum-high}
use Rattle.error_bound.proofs.WordBound.{Near, GoodWord, sum-in-range, good-word}

map_at : (f : ℕ → ℕ) (l : List ℕ) (n : ℕ) → n < length l → get_or (map f l) n 0 ≡ f (get_or l n 0)
map_at f [] n h = absurd (not-suc-le-zero h)
map_at f (a ∷ l) zero h = refl
map_at f (a ∷ l) (suc n) h = map_at f l n (le_of_suc-le-suc h)

usable-set : (d : Design) → Admitted d → (initial : List ℕ) (offsets : List ℤ) → Filled d initial offsets
    → Usable d (length initial) (length offsets)
usable-set d admitted initial offsets filled =
    record { legal = admitted.legal; initial-long = filled.initial-long; offsets-long = filled.offsets-long }

module _ (d : Design) (admitted : Admitted d) (x : ℕ) (x_lt : x < 2 ^ d.w) where
  l : Limits d
  l = limits d admitted.legal

  range : InRange d.w (2 ^ d.w + x)
  range = record { low = omega arith; high = omega arith }

  -- what is added and what is taken, all together
  abbrev plus : ℕ
  plus = initial_at d (initial_word d x) + sum_below d.m (λ i. added (written_offset d x i))

  abbrev minus : ℕ
  minus = sum_below d.m (λ i. taken (written_offset d x i))

  half_is : 2 ^ 18 * 2 ^ (d.g - 1) ≡ 2 ^ (d.g + 17)
  half_is = let e : 18 + (d.g - 1) ≡ d.g + 17 = omega (arith, l.widths.g-low) in sym (pow-add 2 18 (d.g - 1)) ∙ rw e refl

  within : budget d < 2 ^ (d.g + 17)
  unfolding limit
  within = admitted.within

  -- more is added than taken, so the sum is a natural number
  less-taken : minus ≤ plus
  less-taken =
      let e : fraction_bits d + 17 + 1 ≡ fraction_bits d + 18 = omega arith in
      omega (
        arith,
        within,
        half_is,
        sum-high d l x x_lt (2 ^ (fraction_bits d + 17))
            (rw e at (value_low (row d) (lawful d l) d.w (2 ^ d.w + x) range (fraction_bits d + 17))),
      )

  pub near : Near (row d) d.w (fraction_bits d) (2 ^ d.w + x) (plus - minus) (2 ^ (d.g + 17)) (budget d)
  near =
      record {
        low = λ n h. omega (arith, less-taken, half_is, sum_low d l x x_lt n h);
        high = λ n h. omega (arith, less-taken, half_is, sum-high d l x x_lt n h);
      }

  module _ (initial : List ℕ) (offsets : List ℤ) (filled : Filled d initial offsets) where
    offset_read : (i : ℕ) → i < d.m → offset_for d offsets x i ≡ written_offset d x i
    unfolding offset_for offset_place stored_offset written_offset
    offset_read i h =
        let A = segment_word d i x in
        let B = offset_word d i x in
        rw (filled.offset-entry i A (stored_index d i B) h (segment-word-lt d l i x h x_lt) (index-lt d i B (offset-word-lt d i x)))
        (stored_back d i A B (l.table i h).b-low (offset-word-lt d i x))

    pub sum_is : sum_at d initial offsets x ≡ pos (plus - minus)
    unfolding sum_at
    sum_is =
        rw (
          filled.initial-entry (initial_word d x) (initial-word-lt d l x x_lt),
          signed-congruence d.m (offset_for d offsets x) (written_offset d x) offset_read,
        )
        (not_negative _ plus minus (total-balance (initial_at d (initial_word d x)) d.m (written_offset d x)) less-taken)

    pub word-is : word_at d initial offsets x ≡ (plus - minus) / 2 ^ d.g
    unfolding word_at word_of
    word-is = rw sum_is refl

    in-range : plus - minus < 2 ^ (fraction_bits d + 2)
    in-range =
        sum-in-range (row d) (lawful d l) d.w d.q d.g (2 ^ d.w + x) (plus - minus) (budget d) range near within

    pub not-outside : sum_outside d (sum_at d initial offsets x) ≡ false
    unfolding sum_outside
    not-outside = rw (sum_is, le-ltb (plus - minus) 0 (omega arith), lt-leb _ _ in-range)

    pub passes : verdict (word_checks d initial offsets x) ≡ (Ok tt)
    unfolding word_checks word_check
    passes = rw (lt-leb _ _ x_lt, not-outside)

    alone : evaluate_answer d initial offsets x ≡ Ok (record { 0 = word_at d initial offsets x })
    unfolding evaluate_answer evaluate_verdict
    alone = rw (verdict-append, set-passed d _ _ (usable-set d admitted initial offsets filled), passes)

    good : GoodWord (row d) d.w d.q d.g (2 ^ d.w + x) (word_at d initial offsets x) (budget d)
    good =
        rw word-is
        (good-word (row d) (lawful d l) d.w d.q d.g (2 ^ d.w + x) (plus - minus) (budget d) range near within
        (omega (arith, l.widths.q-low)))

    pub word_holds : WordHolds d initial offsets x
    unfolding margin scaled_word
    word_holds =
        record {
          Y = plus - minus;
          sum = sum_is;
          in-range = in-range;
          word = word-is;
          alone = alone;
          faithful = good.faithful;
          bound = record { above_zero = good.above_zero; low = good.low; high = good.high };
          faithful-said = said ◌<◌ d.w d.q (2 ^ d.w + x) _ _ d.kind (good.faithful.low, good.faithful.high);
          bound-said = said ◌≤◌ d.w (fraction_bits d + 18) (2 ^ d.w + x) _ _ d.kind (good.low, good.high);
        }

module _ (d : Design) (admitted : Admitted d) (initial : List ℕ) (offsets : List ℤ) (filled : Filled d initial offsets) where
  set-passes : verdict (set_checks d (length initial) (length offsets)) ≡ (Ok tt)
  set-passes = set-passed d _ _ (usable-set d admitted initial offsets filled)

  check-holds : check_answer d initial offsets ≡ Ok None
  unfolding check_verdict
  check-holds =
      (check-means d initial offsets set-passes).is-faithful
      (λ x h. record {
        has_word = not-outside d admitted x h initial offsets filled;
        faithful = (word_holds d admitted x h initial offsets filled).faithful;
      })

  module _ (words output : List ℕ) (in-range : (n : ℕ) → n < length words → get_or words n 0 < 2 ^ d.w)
      (room : length words ≤ length output) where
    place-passes : (n : ℕ) → n < length words → place_verdict d initial offsets words n ≡ (Ok tt)
    unfolding place_verdict
    place-passes n h = passes d admitted (get_or words n 0) (in-range n h) initial offsets filled

    accepted : batch_answer d initial offsets words (length output) ≡ Ok (length words)
    unfolding batch_answer room_verdict output_check
    accepted =
        rw (verdict-append, set-passes, le-ltb _ _ room)
        (batch-all (length words) (place_verdict d initial offsets words) place-passes)

    -- what an accepted batch leaves
    output-is : output_after d initial offsets words output ≡ map (word_at d initial offsets) words ++ drop (length words) output
    unfolding output_after
    output-is = rw (accepted, length-map words (word_at d initial offsets)) refl

    batch-holds : BatchHolds d initial offsets words output
    batch-holds =
        record {
          accepted = accepted;
          contents = output-is;
          at_place = λ n h.
              rw output-is
              (get_or-append (map (word_at d initial offsets) words) _ 0 n (rw (length-map words (word_at d initial offsets)) h)
              ∙ map_at (word_at d initial offsets) words n h);
        }

-- The whole of it
pub error-bound : ErrorBound
error-bound d admitted =
    record {
      each_word = λ initial offsets filled x h. word_holds d admitted x h initial offsets filled;
      each-batch = batch-holds d admitted;
      check = check-holds d admitted;
      fill = EntryLaws.filled d;
    }
