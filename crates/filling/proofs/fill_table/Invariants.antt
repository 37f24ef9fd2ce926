-- `filling::fill_table` meets its contract: the loop keeps `Segments`, the first n segments written.
use Rattle.filling.proofs.TableLaws.{Segments}
use Rattle.filling.proofs.fill_table.Given as goal

abbrev pub invariant-loop-segment : goal.invariant-loop-segment
invariant-loop-segment l = Segments l.fn.legal.design l.i l.initial.table l.table l.segment
