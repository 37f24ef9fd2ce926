-- `counting::Words::count_all` meets its contract: before an interval, the words below it are counted.
use mathlib.Core.Path.{◌≡◌}
use Prim.Native.Nat.{◌-◌, ◌*◌, ◌^◌}
use Rattle.counting.specs.Count.{class_at, counts_below}
use Rattle.counting.proofs.Words.count_all.Given as goal

abbrev pub invariant-loop-interval : goal.invariant-loop-interval
invariant-loop-interval l =
    let set = l.self.set in
    let d = set.tables.design in
    l.counts ≡ counts_below (l.interval * 2 ^ (d.w - d.alpha)) (class_at d set.initial.now set.tables.offsets.now)
