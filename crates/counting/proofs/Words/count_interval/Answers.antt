-- `counting::Words::count_interval` meets its contract: before a run of the interval, the words below it are counted.
use mathlib.Core.Path.{◌≡◌, ◌∙◌, sym}
use Prim.Native.Nat.{ℕ, ◌+◌, ◌-◌, ◌*◌, ◌^◌, ◌≤◌}
use native.Mathlib.Nat.{add-zero, zero-mul}
use native.Mathlib.Omega.{arith}
use Rattle.values.specs.Room.{word_bound}
use Rattle.design.proofs.LegalLaws.{limits}
use Rattle.tables.specs.declared.sums.OffsetTables.{OffsetTables}
use Rattle.tables.proofs.IntervalLaws.{power_small}
use Rattle.tables.proofs.RunLaws.{first-within}
use Rattle.counting.specs.declared.Class.{Class}
use Rattle.counting.specs.Count.{counts_below}
use Rattle.counting.proofs.IntervalRuns.{
  first-bits,
  Runs,
  runs_of,
  start_small,
  one-run,
  begins,
  entry-number,
  word_small,
}
use Rattle.counting.proofs.Words.count_interval.Goals as goal

module _ (classes : ℕ → Class) where
  -- A run leads to the next,
  next-run : (start number size : ℕ) {from words : ℕ} → from ≡ start + number * size → words ≡ size
      → counts_below (from + words) classes ≡ counts_below (start + (number + 1) * size) classes
  next-run start number size from_is words_are =
      let end : start + number * size + size ≡ start + (number + 1) * size = omega arith in
      rw (from_is, words_are, end)

  -- and the last to the end of the interval.
  whole : (interval runs size : ℕ) {number rests : ℕ} → number ≡ runs → runs * size ≡ rests
      → counts_below (interval * (runs * size) + number * size) classes ≡ counts_below ((interval + 1) * rests) classes
  whole interval runs size last rests-are =
      let end : interval * (runs * size) + runs * size ≡ (interval + 1) * (runs * size) = omega arith in
      rw (last, end, rests-are)

-- the runs of an interval of the set
module _ (tables : OffsetTables) where
  counted : {runs size : ℕ} → runs ≡ 2 ^ (tables.design.w - tables.design.alpha - tables.lookups.first.b)
      → size ≡ 2 ^ tables.lookups.first.b → Runs tables.design runs size
  counted runs-told size-told = runs_of (limits _ tables.legal) (first-bits _ tables.lookups_value) runs-told size-told

  -- how few they are
  few : {runs : ℕ} → runs ≡ 2 ^ (tables.design.w - tables.design.alpha - tables.lookups.first.b) → runs ≤ word_bound
  few runs-told =
      let bits = tables.design.w - tables.design.alpha - tables.lookups.first.b in
      rw runs-told (power_small _ (limits _ tables.legal) bits (omega arith))

  first-inside : tables.lookups.first.b ≤ tables.design.w - tables.design.alpha
  first-inside = rw (first-bits _ tables.lookups_value) (first-within _ (limits _ tables.legal))

pub overflow_sub-d : goal.overflow_sub-d
overflow_sub-d c = omega (arith, (limits _ c.args.self.set.tables.legal).alpha-below)

pub overflow_sub-d-2 : goal.overflow_sub-d-2
overflow_sub-d-2 c = first-inside c.args.self.set.tables

pub pow2-runs-requires : goal.pow2-runs-requires
pow2-runs-requires c = omega (arith, (limits _ c.args.self.set.tables.legal).widths.room.w-small)

pub overflow_cast-runs : goal.overflow_cast-runs
overflow_cast-runs c = omega (arith, few c.args.self.set.tables c.pow2-runs.ensures)

pub pow2-size-requires : goal.pow2-size-requires
pow2-size-requires c =
    omega (arith, first-inside c.args.self.set.tables, (limits _ c.args.self.set.tables.legal).widths.room.w-small)

pub overflow_cast-size : goal.overflow_cast-size
overflow_cast-size c = omega (arith, (counted c.args.self.set.tables c.pow2-runs.ensures c.pow2-size.ensures).size_small)

pub overflow_mul-start : goal.overflow_mul-start
overflow_mul-start c = omega (arith, (counted c.args.self.set.tables c.pow2-runs.ensures c.pow2-size.ensures).intervals.rests-small)

pub overflow_mul-start-2 : goal.overflow_mul-start-2
overflow_mul-start-2 c =
    omega (arith, start_small (counted c.args.self.set.tables c.pow2-runs.ensures c.pow2-size.ensures) c.requires.interval_bound)

pub loop-number-init : goal.loop-number-init
loop-number-init c =
    rw (zero-mul, add-zero, (counted c.args.self.set.tables c.pow2-runs.ensures c.pow2-size.ensures).rests-is) c.requires.before_value

-- each run begins within the interval
pub overflow_mul-number : goal.overflow_mul-number
overflow_mul-number c =
    omega (
      arith,
      word_small (counted c.args.self.set.tables c.pow2-runs.ensures c.pow2-size.ensures) c.requires.interval_bound c.loop-number-test.true,
    )

pub overflow_add-start : goal.overflow_add-start
overflow_add-start c =
    omega (
      arith,
      word_small (counted c.args.self.set.tables c.pow2-runs.ensures c.pow2-size.ensures) c.requires.interval_bound c.loop-number-test.true,
    )

pub run_of-run-requires : goal.run_of-run-requires
run_of-run-requires c =
    let r = counted c.args.self.set.tables c.pow2-runs.ensures c.pow2-size.ensures in
    (one-run r c.requires.interval_bound c.loop-number-test.true, begins r c.requires.interval_bound c.loop-number-test.true)

pub count_run-requires-clause-run_of : goal.count_run-requires-clause-run_of
count_run-requires-clause-run_of c =
    let r = counted c.args.self.set.tables c.pow2-runs.ensures c.pow2-size.ensures in
    let e = c.run_of-run.ensures in
    (e.2, rw (e.0, entry-number r c.requires.interval_bound c.loop-number-test.true) e.1)

pub count_run-requires-clause-before_value : goal.count_run-requires-clause-before_value
count_run-requires-clause-before_value c = rw c.run_of-run.ensures.0 c.loop-number.invariant

pub loop-number-preserved : goal.loop-number-preserved
loop-number-preserved c =
    let r = counted c.args.self.set.tables c.pow2-runs.ensures c.pow2-size.ensures in
    let e = c.run_of-run.ensures in
    c.count_run.ensures ∙ next-run _ _ _ _ e.0 (e.2.size_is ∙ sym r.size_is)

pub returns : goal.returns
returns c =
    let r = counted c.args.self.set.tables c.pow2-runs.ensures c.pow2-size.ensures in
    let all : c.loop-number.number ≡ c.pow2-runs.result = omega arith in
    c.loop-number.invariant ∙ whole _ _ _ _ all r.rests-is
