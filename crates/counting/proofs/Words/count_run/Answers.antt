-- `counting::Words::count_run` meets its contract: before word b of the run, the words below it are counted.
use mathlib.Core.Path.{◌≡◌, ◌∙◌}
use mathlib.Core.List.{List}
use Prim.Native.Nat.{ℕ, ◌+◌, ◌^◌, ◌<◌}
use native.Mathlib.Nat.{add-zero, add_assoc}
use native.Mathlib.Omega.{arith}
use lib.ListN.{get_or}
use lib.IntN.{ℤ}
use Rattle.values.specs.declared.TableUnits.{TableUnits}
use Rattle.values.specs.Room.{word_bound}
use Rattle.values.proofs.Bounds.{words-few}
use Rattle.design.specs.declared.Design.{Design}
use Rattle.design.specs.Cut.{initial_word}
use Rattle.design.proofs.LegalLaws.{Limits, limits}
use Rattle.tables.specs.declared.runs.Run.{Run}
use Rattle.tables.specs.Inputs.{RunOf}
use Rattle.tables.specs.Sum.{sum_from, sum_at}
use Rattle.tables.proofs.RunLaws.{run-initial, run-interval}
use Rattle.counting.specs.declared.Class.{Class}
use Rattle.counting.specs.declared.Counts.{Counts}
use Rattle.counting.specs.Count.{class_of, class_at, counts_below}
use Rattle.counting.specs.Inputs.{with_class}
use Rattle.counting.proofs.CountLaws.{counts-next, counts-few}
use Rattle.counting.proofs.Words.count_run.Goals as goal

-- Word b of the run
module _ {d : Design} (l : Limits d) {offsets : List ℤ} {run : Run} (r : RunOf d offsets run) (b : ℕ) (b_lt : b < run.size) where
  word_lt : run.start + b < 2 ^ d.w
  word_lt = (run-interval d l run.start b r.starts (rw r.size_is at b_lt) r.interval).word

  few : run.start + b < word_bound
  few = omega (arith, word_lt, words-few l.widths.room)

  module _ (initial : List ℕ) (entry-is : run.entry ≡ get_or initial (initial_word d run.start) 0) {sum : TableUnits}
      (sum_is_lem : sum ≡ record { 0 = sum_from d run.entry offsets (run.start + b) }) where
    summed : sum ≡ record { 0 = sum_at d initial offsets (run.start + b) }
    unfolding sum_at
    summed = rw (run-initial d l run.start b r.starts (rw r.size_is at b_lt), ← entry-is) sum_is_lem

    classed : {class : Class} → class ≡ class_of d (run.start + b) sum.0 → class ≡ class_at d initial offsets (run.start + b)
    unfolding class_at
    classed class-is = class-is ∙ rw summed

-- One word more
more : (classes : ℕ → Class) (n b : ℕ) {counts next : Counts} {class : Class} → counts ≡ counts_below (n + b) classes
    → class ≡ classes (n + b) → next ≡ with_class counts class → next ≡ counts_below (n + (b + 1)) classes
more classes n b counts-are class-is next-is = next-is ∙ rw (counts-are, class-is, counts-next classes (n + b), add_assoc n b 1)

pub loop-b-init : goal.loop-b-init
loop-b-init c = rw add-zero c.requires.before_value

pub overflow_add-run : goal.overflow_add-run
overflow_add-run c = omega (arith, few (limits _ c.args.self.set.tables.legal) c.requires.run_of.0 _ c.loop-b-test.true)

pub class_of-requires : goal.class_of-requires
class_of-requires c = word_lt (limits _ c.args.self.set.tables.legal) c.requires.run_of.0 _ c.loop-b-test.true

pub add-requires : goal.add-requires
add-requires c =
    rw c.loop-b.invariant
    (counts-few _ _ (omega (arith, few (limits _ c.args.self.set.tables.legal) c.requires.run_of.0 _ c.loop-b-test.true)))

pub loop-b-preserved : goal.loop-b-preserved
loop-b-preserved c =
    let class-is = classed (limits _ c.args.self.set.tables.legal) c.requires.run_of.0 _ c.loop-b-test.true _ c.requires.run_of.1
    c.sum_in-sum.ensures c.class_of.ensures in
    more _ _ _ c.loop-b.invariant class-is c.add.ensures

pub returns : goal.returns
returns c =
    let all : c.loop-b.b ≡ c.args.run.size = omega arith in
    rw all at c.loop-b.invariant
