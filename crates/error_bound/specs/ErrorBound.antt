-- Demand 3, as document 01 states it in "Evaluating and checking".
use Rattle.std.specs.Prelude.{◌≡◌, List, ◌++◌, map, ℕ, ◌+◌, ◌-◌, ◌*◌, ◌/◌, ◌^◌, ◌≤◌, ◌<◌, length, get_or, drop, ℤ, pos, Ok, None}
use Rattle.values.specs.Exact.{AtMost, AtLeast}
use Rattle.values.specs.Faithful.{Faithful}
use Rattle.values.specs.Document.{Between}
use Rattle.design.specs.declared.Design.{Design}
use Rattle.design.specs.Cut.{row, fraction_bits}
use Rattle.design.specs.Budget.{budget, Admitted}
use Rattle.tables.specs.Sum.{sum_at, word_at}
use Rattle.filling.specs.Fill.{fill_verdict, initial_after, offsets_after, Filled}
use Rattle.evaluating.specs.Evaluate.{evaluate_answer}
use Rattle.evaluating.specs.Batch.{batch_answer, output_after}
use Rattle.checking.specs.Check.{check_answer}

-- "let R = budget + 2^(g+17) and Y' = 2^(18+g)·y"
unfoldable pub margin : Design → ℕ
margin d = budget d + 2 ^ (d.g + 17)

unfoldable pub scaled_word : Design → ℕ → ℕ
scaled_word d y = 2 ^ (18 + d.g) * y

-- "The bound is Y' - R ≤ 2^18·E(X) ≤ Y' + R", and "Y' - R is above 0"
pub record SecondBound (d : Design) (X y : ℕ) : Type 0 where
  pub above_zero : margin d < scaled_word d y
  pub low : AtMost (row d) d.w (fraction_bits d + 18) X (scaled_word d y - margin d)
  pub high : AtLeast (row d) d.w (fraction_bits d + 18) X (scaled_word d y + margin d)

-- What demand 3 says of one input word
pub record WordHolds (d : Design) (initial : List ℕ) (offsets : List ℤ) (x : ℕ) : Type 0 where
  -- "its word .. is floor(Y / 2^g) with Y summed from these tables", a Y that is not negative and in range
  pub Y : ℕ
  pub sum : sum_at d initial offsets x ≡ pos Y
  pub in-range : Y < 2 ^ (fraction_bits d + 2)
  pub word : word_at d initial offsets x ≡ Y / 2 ^ d.g
  -- "evaluation accepts x", with this word
  pub alone : evaluate_answer d initial offsets x ≡ Ok (record { 0 = word_at d initial offsets x })
  -- "this word is faithful and meets the second bound", in one form for all kinds
  pub faithful : Faithful (row d) d.w d.q (2 ^ d.w + x) (word_at d initial offsets x)
  pub bound : SecondBound d (2 ^ d.w + x) (word_at d initial offsets x)
  -- and in document 01's for each, with its c
  pub faithful-said : Between ◌<◌ d.kind (row d).c d.w d.q (2 ^ d.w + x)
      (word_at d initial offsets x - 1) (word_at d initial offsets x + 1)
  pub bound-said : Between ◌≤◌ d.kind (row d).c d.w (fraction_bits d + 18) (2 ^ d.w + x)
      (scaled_word d (word_at d initial offsets x) - margin d) (scaled_word d (word_at d initial offsets x) + margin d)

-- What it says of a batch: it is accepted, each word's output stands "at x's place in the output", and the output beyond is untouched.
pub record BatchHolds (d : Design) (initial : List ℕ) (offsets : List ℤ) (words output : List ℕ) : Type 0 where
  pub accepted : batch_answer d initial offsets words (length output) ≡ Ok (length words)
  pub contents : output_after d initial offsets words output ≡ map (word_at d initial offsets) words ++ drop (length words) output
  pub at_place : (n : ℕ) → n < length words
      → get_or (output_after d initial offsets words output) n 0 ≡ word_at d initial offsets (get_or words n 0)

-- What it says of one design
pub record Holds (d : Design) : Type 0 where
  pub each_word : (initial : List ℕ) (offsets : List ℤ) → Filled d initial offsets → (x : ℕ) → x < 2 ^ d.w
      → WordHolds d initial offsets x
  pub each-batch : (initial : List ℕ) (offsets : List ℤ) → Filled d initial offsets → (words output : List ℕ)
      → ((n : ℕ) → n < length words → get_or words n 0 < 2 ^ d.w) → length words ≤ length output
      → BatchHolds d initial offsets words output
  pub check : (initial : List ℕ) (offsets : List ℤ) → Filled d initial offsets → check_answer d initial offsets ≡ Ok None
  pub fill : (initial : List ℕ) (offsets : List ℤ) → fill_verdict d (length initial) (length offsets) ≡ (Ok tt)
      → Filled d (initial_after d initial offsets) (offsets_after d initial offsets)

-- "Demand 3 is one statement: for every admitted design, all lent tables that begin with the entries the fill writes for it, and every
-- x < 2^w, evaluation accepts x, alone or in a batch of such words with an output long enough, its word, in a batch at x's place in the
-- output, is floor(Y / 2^g) with Y summed from these tables, this word is faithful and meets the second bound, and the check of the
-- same design and tables answers faithful. .. an accepted fill leaves such tables."
abbrev pub ErrorBound : Type 0
ErrorBound = (d : Design) → Admitted d → Holds d
