-- Document 02, A1, over the calls `count` and `check`.
use Rattle.std.specs.Prelude.{◌≡◌, true, false, ◌↔◌, List, ℕ, ◌+◌, ◌^◌, ◌≤◌, ℤ, Ok, None}
use Rattle.refusal.specs.Told.{number_told}
use Rattle.values.specs.declared.rows.Row.{Row}
use Rattle.values.specs.Faithful.{Faithful, Nearest, TooLow, TooHigh}
use Rattle.design.specs.declared.Design.{Design}
use Rattle.design.specs.Cut.{row}
use Rattle.tables.specs.Sum.{sum_at, sum_outside, word_at}
use Rattle.checking.specs.Check.{check_answer, check_told}
use Rattle.counting.specs.declared.Class.{Class}
use Rattle.counting.specs.declared.Counts.{Counts}
use Rattle.counting.specs.Count.{rank_of, class_at, count_answer, count_told}

-- An input has a word, since its sum is in range, and the word stands so to the exact value.
abbrev pub HasWord : Design → List ℕ → List ℤ → ℕ → (Row → ℕ → ℕ → ℕ → ℕ → Type 0) → Type 0
HasWord d initial offsets x Stands =
    (sum_outside d (sum_at d initial offsets x) ≡ false) × Stands (row d) d.w d.q (2 ^ d.w + x) (word_at d initial offsets x)

-- What fits each class: "sum out of range; nearest ..; faithful ..; too low; too high". A nearest word fits the class of the faithful ones,
-- too, and the order decides.
abbrev pub Fits : Design → List ℕ → List ℤ → ℕ → Class → Type 0
Fits d initial offsets x Class.Outside = sum_outside d (sum_at d initial offsets x) ≡ true
Fits d initial offsets x Class.Nearest = HasWord d initial offsets x Nearest
Fits d initial offsets x Class.Faithful = HasWord d initial offsets x Faithful
Fits d initial offsets x Class.Low = HasWord d initial offsets x TooLow
Fits d initial offsets x Class.High = HasWord d initial offsets x TooHigh

-- "Each input lands in the first that fits, in that order": its class fits, and no class before it does.
pub record Lands (d : Design) (initial : List ℕ) (offsets : List ℤ) (x : ℕ) : Type 0 where
  pub fits : Fits d initial offsets x (class_at d initial offsets x)
  pub first : (class : Class) → Fits d initial offsets x class → rank_of (class_at d initial offsets x) ≤ rank_of class

-- What the counts of any set say
pub record Agrees (d : Design) (initial : List ℕ) (offsets : List ℤ) : Type 0 where
  pub lands : (x : ℕ) → Lands d initial offsets x
  -- "a word 0 is too low"
  pub zero-low : (x : ℕ) → HasWord d initial offsets x (λ row w q X y. y ≡ 0) → class_at d initial offsets x ≡ Class.Low
  -- "The call refuses as the check does."
  pub refuses : number_told (count_told d initial offsets) ≡ number_told (check_told d initial offsets)
  -- "The five add up to 2^w,
  pub adds-up : (counts : Counts) → count_answer d initial offsets ≡ Ok counts
      → counts.outside + counts.nearest + counts.faithful + counts.low + counts.high ≡ 2 ^ d.w
  -- and the check says faithful exactly when the first and the last two are zero."
  pub exactly : (counts : Counts) → count_answer d initial offsets ≡ Ok counts
      → (check_answer d initial offsets ≡ Ok None) ↔ ((counts.outside ≡ 0) × (counts.low ≡ 0) × (counts.high ≡ 0))

-- "For any set": any design and any tables
abbrev pub Agreement : Type 0
Agreement = (d : Design) (initial : List ℕ) (offsets : List ℤ) → Agrees d initial offsets
