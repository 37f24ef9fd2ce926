-- `encoding::design_frame` meets its contract: each turn puts a pair behind the others.
use Rattle.encoding.proofs.DesignLaws.{Paired}
use Rattle.encoding.proofs.design_frame.Given as goal

abbrev pub invariant-loop-i : goal.invariant-loop-i
invariant-loop-i l = Paired l.legal.design l.frame l.i
