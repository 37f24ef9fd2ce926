-- `filling::fill_offsets` meets its contract: the loop keeps `Tables`, the first n tables written, and where the next one begins.
use Rattle.filling.proofs.TableLaws.{Tables}
use Rattle.filling.proofs.fill_offsets.Given as goal

abbrev pub invariant-loop-i : goal.invariant-loop-i
invariant-loop-i l = Tables l.legal.design l.initial.offsets l.offsets l.at l.p l.i
