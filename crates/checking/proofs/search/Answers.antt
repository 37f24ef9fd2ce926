-- `checking::search` meets its contract: up to here every word is faithful, over whole intervals and then within one.
use mathlib.Core.Path.{◌≡◌, ap, sym}
use mathlib.Core.Bool.{Bool}
use Prim.Native.Nat.{ℕ, ◌+◌, ◌-◌, ◌^◌}
use native.Mathlib.Nat.{zero-mul, add-zero, add_assoc}
use native.Mathlib.Omega.{arith}
use lib.ListN.{get_or}
use Rattle.general.proofs.Tests.{tested}
use Rattle.design.proofs.LegalLaws.{limits}
use Rattle.tables.specs.declared.sums.TableSet.{TableSet}
use Rattle.tables.proofs.IntervalLaws.{Intervals, intervals-fit, rests-fit, intervals-of, start-inside, interval-word, one-interval}
use Rattle.checking.specs.Check.{Finding}
use Rattle.checking.proofs.SearchLaws.{Searched, searched-none, searched-more, searched-all, searched-found, next-interval}
use Rattle.checking.proofs.search.Goals as goal

-- the intervals of the set, all of them
module _ (set : TableSet) {intervals rests : ℕ} (intervals-told : intervals ≡ 2 ^ set.tables.design.alpha)
    (rests-told : rests ≡ 2 ^ (set.tables.design.w - set.tables.design.alpha)) where
  counted : Intervals set.tables.design intervals rests
  counted = intervals-of _ (limits _ set.tables.legal) intervals-told rests-told

-- the first word of an interval is its start
searched-start : (faithful : ℕ → Bool) (answer : Finding) (start : ℕ) → Searched faithful answer start
    → Searched faithful answer (start + 0)
searched-start faithful answer start s = rw add-zero s

pub returns-after-words : goal.returns-after-words
returns-after-words c =
    let n = counted c.args.set c.pow2-intervals.ensures c.pow2-rests.ensures in
    let all : c.words.number ≡ c.pow2-intervals.result = omega arith in
    searched-all _ (rw (all, n.product) at c.words.invariant)

pub returns-then-not-is_faithful : goal.returns-then-not-is_faithful
returns-then-not-is_faithful c =
    let n = counted c.args.set c.pow2-intervals.ensures c.pow2-rests.ensures in
    searched-found _ c.loop-rest.invariant (one-interval n c.words-test.true c.loop-rest-test.true).word
    (tested c.is_faithful.ensures c.if-not-is_faithful.true)

pub row_of-row-requires : goal.row_of-row-requires
row_of-row-requires c = (limits _ c.args.set.tables.legal).widths.kind-known

pub pow2-intervals-requires : goal.pow2-intervals-requires
pow2-intervals-requires c = omega (arith, (limits _ c.args.set.tables.legal).alpha-high)

pub overflow_cast-intervals : goal.overflow_cast-intervals
overflow_cast-intervals c = omega (arith, c.pow2-intervals.ensures, intervals-fit _ (limits _ c.args.set.tables.legal))

pub overflow_sub-d : goal.overflow_sub-d
overflow_sub-d c = omega (arith, (limits _ c.args.set.tables.legal).alpha-below)

pub pow2-rests-requires : goal.pow2-rests-requires
pow2-rests-requires c = omega (arith, (limits _ c.args.set.tables.legal).widths.room.w-small)

pub overflow_cast-rests : goal.overflow_cast-rests
overflow_cast-rests c = omega (arith, c.pow2-rests.ensures, rests-fit _ (limits _ c.args.set.tables.legal))

pub words-init : goal.words-init
words-init c = rw zero-mul (searched-none _)

pub overflow_mul-start : goal.overflow_mul-start
overflow_mul-start c =
    let n = counted c.args.set c.pow2-intervals.ensures c.pow2-rests.ensures in
    omega (arith, n.words_small, start-inside n c.words-test.true)

pub bounds-set-number : goal.bounds-set-number
bounds-set-number c =
    let n = counted c.args.set c.pow2-intervals.ensures c.pow2-rests.ensures in
    omega (arith, n.intervals-is, c.args.set.initial_long)

pub loop-rest-init : goal.loop-rest-init
loop-rest-init c = searched-start _ _ _ c.words.invariant

pub overflow_add-x : goal.overflow_add-x
overflow_add-x c =
    let n = counted c.args.set c.pow2-intervals.ensures c.pow2-rests.ensures in
    omega (arith, (one-interval n c.words-test.true c.loop-rest-test.true).word, n.words_small)

pub invariant_of-interval : goal.invariant_of-interval
invariant_of-interval c =
    let n = counted c.args.set c.pow2-intervals.ensures c.pow2-rests.ensures in
    let first = rw add-zero at (interval-word c.words.number 0 n (omega arith)) in
    record { row_value = c.row_of-row.ensures; entry_value = ap (λ (word : ℕ). get_or c.args.set.initial.now word 0) (sym first) }

pub is_faithful-requires : goal.is_faithful-requires
is_faithful-requires c =
    let n = counted c.args.set c.pow2-intervals.ensures c.pow2-rests.ensures in
    one-interval n c.words-test.true c.loop-rest-test.true

pub loop-rest-preserved : goal.loop-rest-preserved
loop-rest-preserved c =
    rw (← add_assoc) (searched-more _ c.loop-rest.invariant (tested c.is_faithful.ensures c.if-not-is_faithful.false))

pub words-preserved : goal.words-preserved
words-preserved c = next-interval _ _ _ _ c.loop-rest.invariant (omega arith)
