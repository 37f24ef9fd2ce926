-- `checking::Interval::is_faithful` meets its contract: a sum out of range settles it, and else the word, of at most q + 2 bits, is tried.
use mathlib.Core.Path.{◌≡◌, ◌∙◌}
use mathlib.Core.Bool.{Bool, true, false}
use mathlib.Core.List.{List}
use Prim.Native.Nat.{ℕ, ◌+◌, ◌^◌}
use native.Mathlib.Omega.{arith}
use lib.ListN.{get_or}
use lib.IntN.{ℤ}
use Rattle.general.proofs.Tests.{tested}
use Rattle.values.specs.declared.TableUnits.{TableUnits}
use Rattle.values.specs.declared.OutputUnits.{OutputUnits}
use Rattle.values.specs.declared.rows.Row.{Row}
use Rattle.values.specs.Faithful.{is_faithful}
use Rattle.values.proofs.Bounds.{coarser-input, words-few}
use Rattle.design.specs.declared.Design.{Design}
use Rattle.design.specs.Cut.{row, initial_word}
use Rattle.design.proofs.LegalLaws.{limits, room}
use Rattle.tables.specs.Inputs.{SameInterval}
use Rattle.tables.specs.Sum.{sum_from, sum_at, sum_outside, word_of, word_at}
use Rattle.tables.proofs.WordLaws.{exact-at, word_small}
use Rattle.checking.specs.Check.{faithful_at}
use Rattle.checking.proofs.Interval.is_faithful.Goals as goal

-- The answer, by what the calls promise
module _ (d : Design) (entry : ℕ) (offsets : List ℤ) (near x : ℕ) (same : SameInterval d near x) (sum : TableUnits) (outside : Bool)
    (from-entry : sum ≡ record { 0 = sum_from d entry offsets x }) (outside-is : outside ≡ sum_outside d sum.0)
    (initial : List ℕ) (entry-is : entry ≡ get_or initial (initial_word d near) 0) where
  sum_is : sum ≡ record { 0 = sum_at d initial offsets x }
  unfolding sum_at
  sum_is = rw (← same.same, ← entry-is) from-entry

  no_word : outside ≡ true → false ≡ faithful_at d initial offsets x
  unfolding faithful_at
  no_word e = let out : sum_outside d (sum_at d initial offsets x) ≡ true = rw sum_is at (tested outside-is e) in rw out

  by_word : outside ≡ false → (r : Row) (one : ℕ) (word : OutputUnits) → r ≡ row d → one ≡ 2 ^ d.w
      → word ≡ record { 0 = word_of d sum.0 } → is_faithful r d.w d.q (one + x) word.0 ≡ faithful_at d initial offsets x
  unfolding faithful_at word_at
  by_word e r one word row_is one-is word-is =
      let inside : sum_outside d (sum_at d initial offsets x) ≡ false = rw sum_is at (tested outside-is e) in
      rw (row_is, one-is, word-is, sum_is, inside)

pub returns-then-sum_outside : goal.returns-then-sum_outside
returns-then-sum_outside c =
    no_word _ _ _ _ _ c.requires _ _ c.sum_from-sum.ensures c.sum_outside.ensures _ c.args.self.entry_value c.if-sum_outside.true

pub returns : goal.returns
returns c =
    c.is_faithful.ensures
    ∙ by_word _ _ _ _ _ c.requires _ _ c.sum_from-sum.ensures c.sum_outside.ensures _ c.args.self.entry_value c.if-sum_outside.false _ _ _
    c.args.self.row_value c.pow2.ensures c.word_of.ensures

pub pow2-requires : goal.pow2-requires
pow2-requires c = omega (arith, (limits _ c.args.self.set.tables.legal).widths.room.w-small)

pub overflow_add-argument : goal.overflow_add-argument
overflow_add-argument c =
    omega (arith, words-few (room _ (limits _ c.args.self.set.tables.legal)), c.pow2.ensures, c.requires.word)

pub is_faithful-requires-clause-floor_input : goal.is_faithful-requires-clause-floor_input
is_faithful-requires-clause-floor_input c =
    let s = c.args.self in
    let l = limits _ s.set.tables.legal in
    rw (s.row_value, c.pow2.ensures) (coarser-input _ (omega arith) (exact-at _ l _ c.requires.word))

pub is_faithful-requires-clause-y_bound : goal.is_faithful-requires-clause-y_bound
is_faithful-requires-clause-y_bound c =
    rw c.word_of.ensures (word_small _ _ (tested c.sum_outside.ensures c.if-sum_outside.false))
