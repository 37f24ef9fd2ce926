-- `console::Console::has_failed` meets its contract.
use borrow.Author.Rules.{rules}
use Rattle.console.proofs.Console.has_failed.Goals as goal

pub returns : goal.returns
returns g c = search rules
