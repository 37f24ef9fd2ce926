-- Document 02, A1: what the call `count` answers. "The call refuses as the check does", 1 to 10, and else gives "five counts over all 2^w
-- inputs".
use Rattle.std.specs.Prelude.{Bool, cond, List, ℕ, ◌+◌, ◌^◌, eqb, length, ℤ, Result}
use Rattle.refusal.specs.declared.Cause.{Cause}
use Rattle.refusal.specs.Verdict.{Verdict}
use Rattle.refusal.specs.Checks.{verdict, answer}
use Rattle.refusal.specs.Told.{Told, told}
use Rattle.general.specs.Below.{count_below}
use Rattle.values.specs.Faithful.{is_faithful, is_nearest, is_too_low}
use Rattle.design.specs.declared.Design.{Design}
use Rattle.design.specs.Cut.{row}
use Rattle.tables.specs.Sum.{sum_at, sum_outside, word_of}
use Rattle.tables.specs.Set.{set_checks}
use Rattle.counting.specs.declared.Class.{Class}
use Rattle.counting.specs.declared.Counts.{Counts}

-- "sum out of range; nearest ..; faithful but not nearest; too low; too high", "in that order": the rank of each
abbrev pub rank_of : Class → ℕ
rank_of Class.Outside = 0
rank_of Class.Nearest = 1
rank_of Class.Faithful = 2
rank_of Class.Low = 3
rank_of Class.High = 4

-- The class of an input x whose sum is Y: "Each input lands in the first that fits". What is neither faithful nor too low is too high.
unfoldable pub class_of : Design → ℕ → ℤ → Class
class_of d x Y =
    cond (sum_outside d Y) Class.Outside
    (cond (is_nearest (row d) d.w d.q (2 ^ d.w + x) (word_of d Y)) Class.Nearest
    (cond (is_faithful (row d) d.w d.q (2 ^ d.w + x) (word_of d Y)) Class.Faithful
    (cond (is_too_low (row d) d.w d.q (2 ^ d.w + x) (word_of d Y)) Class.Low Class.High)))

-- The class of an input over any tables
unfoldable pub class_at : Design → List ℕ → List ℤ → ℕ → Class
class_at d initial offsets x = class_of d x (sum_at d initial offsets x)

-- Whether two classes are the same
abbrev pub is_class : Class → Class → Bool
is_class class other = eqb (rank_of class) (rank_of other)

-- How many of the inputs below n are in the class
unfoldable pub count_of : Class → ℕ → (ℕ → Class) → ℕ
count_of class n classes = count_below n (λ x. is_class (classes x) class)

-- The five counts of the inputs below n
unfoldable pub counts_below : ℕ → (ℕ → Class) → Counts
counts_below n classes =
    record {
      outside = count_of Class.Outside n classes;
      nearest = count_of Class.Nearest n classes;
      faithful = count_of Class.Faithful n classes;
      low = count_of Class.Low n classes;
      high = count_of Class.High n classes;
    }

-- "The call refuses as the check does."
unfoldable pub count_verdict : Design → List ℕ → List ℤ → Verdict
count_verdict d initial offsets = verdict (set_checks d (length initial) (length offsets))

unfoldable pub count_answer : Design → List ℕ → List ℤ → Result Counts Cause
count_answer d initial offsets = answer (count_verdict d initial offsets) (counts_below (2 ^ d.w) (class_at d initial offsets))

-- What is to be told: 1 to 10, else the counts over all inputs
unfoldable pub count_told : Design → List ℕ → List ℤ → Told Counts
count_told d initial offsets = told (count_verdict d initial offsets) (counts_below (2 ^ d.w) (class_at d initial offsets))
