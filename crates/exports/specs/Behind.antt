-- What stands behind the pointer of a call afterwards, by what the call tells: the answer, or where it was refused what stood there
-- before; a batch's place is stored in either case.
use Rattle.std.specs.Prelude.{Bool, List, [], ◌∷◌, ◌++◌, ℕ, ◌^◌, length, ℤ, None, Some}
use Rattle.refusal.specs.Verdict.{Verdict}
use Rattle.refusal.specs.Checks.{verdict}
use Rattle.refusal.specs.Told.{Told, accepted, refused, told}
use Rattle.values.specs.declared.FloorValue.{FloorValue}
use Rattle.values.specs.Value.{word_check}
use Rattle.design.specs.declared.Design.{Design}
use Rattle.tables.specs.Set.{set_checks}
use Rattle.tables.specs.Sum.{sum_at}
use Rattle.checking.specs.Check.{Finding}
use Rattle.counting.specs.declared.Counts.{Counts}
use Rattle.searching.specs.declared.SizedDesign.{SizedDesign}
use Rattle.exports.specs.Numbers.{numbers_of}

-- A budget or a size, a word, a sum, the length of a line
abbrev pub behind : {Value : Type 0} → Told Value → Value → Value
behind (accepted value) before = value
behind (refused number place) before = before

-- A value in table units, and whether the exact value is that whole number
abbrev pub units_after : Told FloorValue → ℤ → ℤ
units_after (accepted floor) before = floor.units.0
units_after (refused number place) before = before

abbrev pub whole_after : Told FloorValue → Bool → Bool
whole_after (accepted floor) before = floor.whole
whole_after (refused number place) before = before

-- How many words were evaluated; where the batch is refused, the place of the word. One of them is always stored.
abbrev pub place_after : Told ℕ → ℕ
place_after (accepted count) = count
place_after (refused number place) = place

-- The lowest unfaithful word; 2^w, which is no word, where all are faithful
abbrev pub first_after : ℕ → Told Finding → ℕ → ℕ
first_after w (accepted None) before = 2 ^ w
first_after w (accepted (Some lowest)) before = lowest
first_after w (refused number place) before = before

-- The five counts, "sum out of range; nearest ..; faithful but not nearest; too low; too high", in that order
abbrev pub five_of : Counts → List ℕ
five_of counts = counts.outside ∷ counts.nearest ∷ counts.faithful ∷ counts.low ∷ counts.high ∷ []

abbrev pub counts_after : Told Counts → List ℕ → List ℕ
counts_after (accepted counts) before = five_of counts
counts_after (refused number place) before = before

-- The smallest design as its numbers, and its size in bits
abbrev pub design_after : Told SizedDesign → List ℕ → List ℕ
design_after (accepted best) before = numbers_of best.design
design_after (refused number place) before = before

abbrev pub bits_after : Told SizedDesign → ℕ → ℕ
bits_after (accepted best) before = best.bits
bits_after (refused number place) before = before

-- Y itself is asked for, whether or not it is in range: 1 to 10, then 12, "x ≥ 2^w"
unfoldable pub sum_verdict : Design → List ℕ → List ℤ → ℕ → Verdict
sum_verdict d initial offsets x = verdict (set_checks d (length initial) (length offsets) ++ word_check d.w x ∷ [])

-- What is to be told: a refusal, or Y, "the initial entry plus the m offsets, each offset signed"
unfoldable pub sum_told : Design → List ℕ → List ℤ → ℕ → Told ℤ
sum_told d initial offsets x = told (sum_verdict d initial offsets x) (sum_at d initial offsets x)
