-- `console::Console::read_line` meets its contract: a line is cut off only where more of it was read than the longest line has.
use lib.ListN.{length}
use Prim.Native.Nat.{◌<◌}
use borrow.Author.Rules.{rules}
use Rattle.frames.specs.Line.{longest_line}
use Rattle.console.proofs.LineLaws.{whole-line}
use Rattle.console.proofs.Console.read_line.Goals as goal

pub returns-clause-line : goal.returns-clause-line
returns-clause-line g c =
    let long : longest_line < length c.read_start.new.bytes = search rules in
    whole-line _ _ long c.in_ok-count.ensures.start
