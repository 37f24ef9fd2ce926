-- `checking::search` meets its contract: up to here every word is faithful, over whole intervals and then within one.
use Prim.Native.Nat.{◌+◌, ◌*◌}
use Rattle.checking.specs.Check.{faithful_at}
use Rattle.checking.proofs.SearchLaws.{Searched}
use Rattle.checking.proofs.search.Given as goal

abbrev pub invariant-loop-rest : goal.invariant-loop-rest
invariant-loop-rest l =
    Searched (faithful_at l.set.tables.design l.set.initial.now l.set.tables.offsets.now) l.lowest (l.start + l.rest)

abbrev pub invariant-words : goal.invariant-words
invariant-words l =
    Searched (faithful_at l.set.tables.design l.set.initial.now l.set.tables.offsets.now) l.lowest (l.number * l.rests)
