-- `reading::Reading::is_finished` meets its contract: a possible state with lines taken is finished by their number.
use mathlib.Core.Path.{sym}
use native.Mathlib.Omega.{arith}
use Rattle.general.proofs.Tests.{tested}
use Rattle.reading.proofs.ReadLaws.{begun, not-begun, not-possible, by_count}
use Rattle.reading.proofs.Reading.is_finished.Goals as goal
use Rattle.reading.proofs.Reading.is_finished.Goals.{then-self-eq0-via-then-self-eq0, then-self-eq0-via-else-self-eq0+then-not-is_possible}

pub returns-then-self-eq0 : goal.returns-then-self-eq0
returns-then-self-eq0 c =
    sym (elim c.then-self-eq0.branch [ then-self-eq0-via-then-self-eq0 w ↦ not-begun _ w.if-self-eq0.true | then-self-eq0-via-else-self-eq0+then-not-is_possible w ↦ not-possible _ (tested w.is_possible.ensures w.if-not-is_possible.true) ])

pub invariant_of-legal : goal.invariant_of-legal
invariant_of-legal c =
    record { legal = (begun _ (omega (arith, c.if-self-eq0.false)) (tested c.is_possible.ensures c.if-not-is_possible.false)).legal }

pub returns : goal.returns
returns c = rw c.line_count.ensures (sym (by_count _ (tested c.is_possible.ensures c.if-not-is_possible.false)))
