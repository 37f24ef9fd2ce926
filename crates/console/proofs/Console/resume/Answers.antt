-- `console::Console::resume` meets its contract: the places lie within the blocks, and a byte is left there exactly where one is by them.
use borrow.Author.Rules.{rules}
use Rattle.console.specs.Resuming.{placed}
use Rattle.console.proofs.ResumeLaws.{next_same}
use Rattle.console.proofs.Console.resume.Goals as goal

pub returns-clause-value : goal.returns-clause-value
returns-clause-value g c = search rules

pub returns-clause-next : goal.returns-clause-next
returns-clause-next g c = next_same (placed c.args.input.now c.args.output.now c.args.places) _ _ (search rules)
