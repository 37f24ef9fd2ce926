-- `counting::Words::count_run` meets its contract: before word b of the run, the words below it are counted.
use mathlib.Core.Path.{◌≡◌}
use Prim.Native.Nat.{◌+◌}
use Rattle.counting.specs.Count.{class_at, counts_below}
use Rattle.counting.proofs.Words.count_run.Given as goal

abbrev pub invariant-loop-b : goal.invariant-loop-b
invariant-loop-b l =
    let set = l.self.set in
    l.counts ≡ counts_below (l.run.start + l.b) (class_at set.tables.design set.initial.now set.tables.offsets.now)
