-- `reading::empty_line` meets its contract: the reading is between sets, or inside one.
use Rattle.general.proofs.Tests.{tested}
use Rattle.reading.proofs.ReadLaws.{empty-passes, empty-fails}
use Rattle.reading.proofs.empty_line.Goals as goal

pub returns-then-not-is_between : goal.returns-then-not-is_between
returns-then-not-is_between c = rw (empty-fails _ (tested c.is_between.ensures c.if-not-is_between.true))

pub returns : goal.returns
returns c = rw (empty-passes _ (tested c.is_between.ensures c.if-not-is_between.false))
