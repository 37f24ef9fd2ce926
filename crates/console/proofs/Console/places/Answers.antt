-- `console::Console::places` meets its contract.
use borrow.Author.Rules.{rules}
use Rattle.console.proofs.Console.places.Goals as goal

pub returns : goal.returns
returns g c = search rules
