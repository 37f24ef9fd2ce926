-- `console::line::Line::text` meets its contract.
use borrow.Author.Rules.{rules}
use Rattle.console.proofs.line.Line.text.Goals as goal

pub returns : goal.returns
returns c = search rules
