-- `console::Console::fold_line`: the bytes so far are those of the line, and the text is made of them.
use mathlib.Core.Path.{◌≡◌}
use lib.ListN.{length}
use Rattle.console.proofs.FoldLaws.{Folding}
use Rattle.console.proofs.Console.fold_line.Given as goal

abbrev pub invariant-line : goal.invariant-line
invariant-line g l =
    record {
      folding : Folding (λ t b u. goal.F-post g l.with t b u) l.initial.self l.initial.text l.text l.begun l.self;
      input : length l.self.input ≡ length l.initial.self.input;
      output : l.self.output ≡ l.initial.self.output;
    }
