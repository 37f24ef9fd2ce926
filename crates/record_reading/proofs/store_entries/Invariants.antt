-- `record_reading::store_entries` meets its contract: after i turns the first i entries are stored.
use mathlib.Core.Path.{◌≡◌}
use Prim.Native.Nat.{◌+◌, ◌*◌}
use lib.ListN.{length}
use Rattle.encoding.specs.Bytes.{entry_bytes}
use Rattle.record_reading.specs.Storing.{initial_home, offset_home}
use Rattle.record_reading.proofs.StoreSteps.{Storing}
use Rattle.record_reading.proofs.store_entries.Given as goal

abbrev pub invariant-loop-i : goal.invariant-loop-i
invariant-loop-i l =
    let rest = l.i-iterator.iter.rest.now in
    let i = l.i-iterator.count in
    record {
      three : l.i-iterator.iter.size ≡ entry_bytes;
      within : length l.stream ≡ entry_bytes * i + length rest;
      initials : Storing (initial_home l.extent.initials) l.e l.stream rest l.initial.initial' l.initial' i;
      offsets : Storing (offset_home l.extent.initials) l.e l.stream rest l.initial.offsets l.offsets i;
    }
