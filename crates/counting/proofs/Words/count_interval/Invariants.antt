-- `counting::Words::count_interval` meets its contract: before a run of the interval, the words below it are counted.
use mathlib.Core.Path.{◌≡◌}
use Prim.Native.Nat.{◌+◌, ◌*◌}
use Rattle.counting.specs.Count.{class_at, counts_below}
use Rattle.counting.proofs.Words.count_interval.Given as goal

abbrev pub invariant-loop-number : goal.invariant-loop-number
invariant-loop-number l =
    let set = l.self.set in
    l.counts ≡ counts_below (l.start + l.number * l.size) (class_at set.tables.design set.initial.now set.tables.offsets.now)
