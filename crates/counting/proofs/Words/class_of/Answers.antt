-- `counting::Words::class_of` meets its contract: its tests are those of the definition, in its order, each tried where those before fail.
use mathlib.Core.Path.{◌≡◌}
use mathlib.Core.Bool.{Bool, true, false}
use Prim.Native.Nat.{ℕ, ◌+◌, ◌^◌}
use native.Mathlib.Omega.{arith}
use lib.IntN.{ℤ}
use Rattle.general.proofs.Tests.{tested}
use Rattle.values.specs.declared.rows.Row.{Row}
use Rattle.values.specs.declared.OutputUnits.{OutputUnits}
use Rattle.values.specs.Faithful.{is_faithful, is_nearest, is_too_low}
use Rattle.values.proofs.Bounds.{coarser-input, words-few}
use Rattle.design.specs.declared.Design.{Design}
use Rattle.design.specs.Cut.{row}
use Rattle.design.proofs.LegalLaws.{limits}
use Rattle.tables.specs.Sum.{sum_outside, word_of}
use Rattle.tables.proofs.WordLaws.{exact-at, word_small}
use Rattle.counting.specs.declared.Class.{Class}
use Rattle.counting.specs.Count.{class_of}
use Rattle.counting.proofs.Words.class_of.Goals as goal
use Rattle.counting.proofs.Words.class_of.Goals.{Else-is_faithful, Else-is_nearest}

module _ (d : Design) (x : ℕ) (Y : ℤ) where
  -- A test of the word, and the same as the code has it
  abbrev at : (Row → ℕ → ℕ → ℕ → ℕ → Bool) → Bool
  at test = test (row d) d.w d.q (2 ^ d.w + x) (word_of d Y)

  told : (test : Row → ℕ → ℕ → ℕ → ℕ → Bool) {r : Row} {one : ℕ} {word : OutputUnits} {result answer : Bool} → r ≡ row d → one ≡ 2 ^ d.w
      → word ≡ record { 0 = word_of d Y } → result ≡ test r d.w d.q (one + x) word.0 → result ≡ answer → at test ≡ answer
  told test row_is one-is word-is promise branch = rw (row_is, one-is, word-is) at (tested promise branch)

  outside : sum_outside d Y ≡ true → Class.Outside ≡ class_of d x Y
  unfolding class_of
  outside e = rw e

  module _ (inside : sum_outside d Y ≡ false) where
    nearest : at is_nearest ≡ true → Class.Nearest ≡ class_of d x Y
    unfolding class_of
    nearest e = rw (inside, e)

    faithful : at is_nearest ≡ false → at is_faithful ≡ true → Class.Faithful ≡ class_of d x Y
    unfolding class_of
    faithful n e = rw (inside, n, e)

    low : at is_nearest ≡ false → at is_faithful ≡ false → at is_too_low ≡ true → Class.Low ≡ class_of d x Y
    unfolding class_of
    low n f e = rw (inside, n, f, e)

    high : at is_nearest ≡ false → at is_faithful ≡ false → at is_too_low ≡ false → Class.High ≡ class_of d x Y
    unfolding class_of
    high n f e = rw (inside, n, f, e)

pub returns-then-sum_outside : goal.returns-then-sum_outside
returns-then-sum_outside c = outside _ _ _ (tested c.sum_outside.ensures c.if-sum_outside.true)

pub pow2-requires : goal.pow2-requires
pow2-requires c = omega (arith, (limits _ c.args.self.set.tables.legal).widths.room.w-small)

pub overflow_add-argument : goal.overflow_add-argument
overflow_add-argument c =
    omega (arith, words-few (limits _ c.args.self.set.tables.legal).widths.room, c.pow2.ensures, c.requires)

pub is_nearest-requires-clause-floor_input : goal.is_nearest-requires-clause-floor_input
is_nearest-requires-clause-floor_input c =
    let s = c.args.self in
    rw (s.row_value, c.pow2.ensures) (exact-at _ (limits _ s.set.tables.legal) _ c.requires)

pub is_nearest-requires-clause-y_bound : goal.is_nearest-requires-clause-y_bound
is_nearest-requires-clause-y_bound c = rw c.word_of-word.ensures (word_small _ _ (tested c.sum_outside.ensures c.if-sum_outside.false))

pub is_faithful-requires-clause-floor_input : goal.is_faithful-requires-clause-floor_input
is_faithful-requires-clause-floor_input c =
    let s = c.args.self in
    rw (s.row_value, c.pow2.ensures) (coarser-input _ (omega arith) (exact-at _ (limits _ s.set.tables.legal) _ c.requires))

pub is_faithful-requires-clause-y_bound : goal.is_faithful-requires-clause-y_bound
is_faithful-requires-clause-y_bound c = rw c.word_of-word.ensures (word_small _ _ (tested c.sum_outside.ensures c.if-sum_outside.false))

pub is_too_low-requires-clause-floor_input : goal.is_too_low-requires-clause-floor_input
is_too_low-requires-clause-floor_input c =
    let s = c.args.self in
    rw (s.row_value, c.pow2.ensures) (coarser-input _ (omega arith) (exact-at _ (limits _ s.set.tables.legal) _ c.requires))

pub is_too_low-requires-clause-y_bound : goal.is_too_low-requires-clause-y_bound
is_too_low-requires-clause-y_bound c = rw c.word_of-word.ensures (word_small _ _ (tested c.sum_outside.ensures c.if-sum_outside.false))

-- what the tests tell, by the place behind each
not-nearest : (c : Else-is_nearest) → let a = c.args in at a.self.set.tables.design a.x a.sum.0 is_nearest ≡ false
not-nearest c =
    told _ _ _ is_nearest c.args.self.row_value c.pow2.ensures c.word_of-word.ensures c.is_nearest.ensures c.if-is_nearest.false

not-faithful : (c : Else-is_faithful) → let a = c.args in at a.self.set.tables.design a.x a.sum.0 is_faithful ≡ false
not-faithful c =
    told _ _ _ is_faithful c.args.self.row_value c.pow2.ensures c.word_of-word.ensures c.is_faithful.ensures c.if-is_faithful.false

pub returns-then-is_nearest : goal.returns-then-is_nearest
returns-then-is_nearest c =
    nearest _ _ _ (tested c.sum_outside.ensures c.if-sum_outside.false)
    (told _ _ _ is_nearest c.args.self.row_value c.pow2.ensures c.word_of-word.ensures c.is_nearest.ensures c.if-is_nearest.true)

pub returns-then-is_faithful : goal.returns-then-is_faithful
returns-then-is_faithful c =
    faithful _ _ _ (tested c.sum_outside.ensures c.if-sum_outside.false) (not-nearest c.before.before)
    (told _ _ _ is_faithful c.args.self.row_value c.pow2.ensures c.word_of-word.ensures c.is_faithful.ensures c.if-is_faithful.true)

pub returns-then-is_too_low : goal.returns-then-is_too_low
returns-then-is_too_low c =
    low _ _ _ (tested c.sum_outside.ensures c.if-sum_outside.false) (not-nearest c.before.before.before.before)
    (not-faithful c.before.before)
    (told _ _ _ is_too_low c.args.self.row_value c.pow2.ensures c.word_of-word.ensures c.is_too_low.ensures c.if-is_too_low.true)

pub returns : goal.returns
returns c =
    high _ _ _ (tested c.sum_outside.ensures c.if-sum_outside.false) (not-nearest c.before.before.before.before)
    (not-faithful c.before.before)
    (told _ _ _ is_too_low c.args.self.row_value c.pow2.ensures c.word_of-word.ensures c.is_too_low.ensures c.if-is_too_low.false)
