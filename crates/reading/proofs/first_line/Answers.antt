-- `reading::first_line` meets its contract: the first frame is tried, and then the tables' lengths.
use Rattle.std.proofs.lemmas.Result.{err_from_is_err_and}
use mathlib.Core.Path.{sym}
use borrow.Author.Rules.{rules}
use Rattle.general.proofs.Tests.{tested}
use Rattle.reading.proofs.LineSteps.{first-refused, first_short, first-accepted}
use Rattle.reading.proofs.first_line.Goals as goal

pub returns-in_err-legal : goal.returns-in_err-legal
returns-in_err-legal c =
    let r = err_from_is_err_and c.from_residual.result c.from_residual.ensures.1 in
    rw (r.1, r.2)
    (first-refused _ _ (search rules) c.requires.sound _ c.requires.taken_value _ _ _ (sym c.in_err-legal.ensures.verdict))

pub returns-then-tables_short : goal.returns-then-tables_short
returns-then-tables_short c =
    let e = c.in_ok-legal.ensures in
    first_short _ _ (search rules) c.requires.sound _ c.requires.taken_value _ _ (sym e.verdict)
    (rw e.held at (tested c.tables_short.ensures c.if-tables_short.true))

pub returns : goal.returns
returns c =
    let e = c.in_ok-legal.ensures in
    rw e.held
    (first-accepted _ _ (search rules) c.requires.sound _ c.requires.taken_value _ _ (sym e.verdict)
    (rw e.held at (tested c.tables_short.ensures c.if-tables_short.false)))
