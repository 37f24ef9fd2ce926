-- What refusals 12 and 13 of a word come to, and what a word that passes them tells.
use Rattle.std.specs.Prelude.{Ok, Err}
use mathlib.Core.Path.{◌≡◌}
use mathlib.Core.Bool.{true, false}
use mathlib.Core.List.{List}
use Prim.Native.Nat.{ℕ, ◌^◌, ◌≤◌, ◌<◌}
use lib.IntN.{ℤ}
use borrow.Author.Tests.{leb-false, le-leb, lt-leb}
use Rattle.refusal.specs.declared.Cause.{Cause}
use Rattle.refusal.specs.Checks.{verdict}
use Rattle.refusal.proofs.Checks.{none-fails}
use Rattle.values.specs.Value.{word_check}
use Rattle.design.specs.declared.Design.{Design}
use Rattle.tables.specs.Sum.{sum_at, sum_outside}
use Rattle.evaluating.specs.Evaluate.{word_checks}

module _ (d : Design) (initial : List ℕ) (offsets : List ℤ) (x : ℕ) where
  pub word-past : 2 ^ d.w ≤ x → verdict (word_checks d initial offsets x) ≡ Err Cause.WordRange
  unfolding word_checks word_check
  word-past h = rw (le-leb _ _ h)

  pub sum-refused : x < 2 ^ d.w → sum_outside d (sum_at d initial offsets x) ≡ true
      → verdict (word_checks d initial offsets x) ≡ Err Cause.SumRange
  unfolding word_checks word_check
  sum-refused h e = rw (lt-leb _ _ h, e)

  pub word-passed : x < 2 ^ d.w → sum_outside d (sum_at d initial offsets x) ≡ false
      → verdict (word_checks d initial offsets x) ≡ (Ok tt)
  unfolding word_checks word_check
  word-passed h e = rw (lt-leb _ _ h, e)

  pub passed-word : verdict (word_checks d initial offsets x) ≡ (Ok tt)
      → (x < 2 ^ d.w) × (sum_outside d (sum_at d initial offsets x) ≡ false)
  unfolding word_checks word_check
  passed-word e =
      let none = none-fails (word_checks d initial offsets x) e in
      (leb-false _ _ none.0, none.1.0)
