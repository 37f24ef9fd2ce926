-- `record_writing::put_entries` meets its contract: the entries that were looked at fit and stand in the window, and the others have no byte
-- in the record.
use Prim.Native.Nat.{◌-◌, ◌/◌, ◌%◌}
use Rattle.encoding.specs.Bytes.{entry_bytes}
use Rattle.records.specs.SetBytes.{entry_at}
use Rattle.record_writing.proofs.FitsLaws.{FitTo}
use Rattle.record_writing.proofs.WindowLaws.{Putting}
use Rattle.record_writing.proofs.put_entries.Given as goal

abbrev pub invariant-loop-e : goal.invariant-loop-e
invariant-loop-e l =
    record {
      fit : FitTo l.initials l.initial' l.offsets (l.start / entry_bytes) l.e;
      put : Putting (entry_at l.initials l.initial' l.offsets) (l.total / entry_bytes) (l.start / entry_bytes) l.initial.window l.window
          (4 - l.start % entry_bytes) l.e;
    }
