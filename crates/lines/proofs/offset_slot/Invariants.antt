-- `lines::offset_slot` meets its contract: each table ends at the place or before until the one that the place lies in.
use Rattle.lines.proofs.TableLaws.{Search}
use Rattle.lines.proofs.offset_slot.Given as goal

abbrev pub invariant-loop-table : goal.invariant-loop-table
invariant-loop-table l = Search l.legal.design l.place l.table l.index
