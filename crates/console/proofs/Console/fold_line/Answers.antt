-- `console::Console::fold_line` meets its contract: each byte is folded after those before it, up to the end of the line.
use mathlib.Core.Path.{refl, ◌∙◌}
use Rattle.console.proofs.FoldLaws.{folding-none, folding-more, folded-newline, folded-end}
use Rattle.console.proofs.Console.fold_line.Goals as goal

pub line-init : goal.line-init
line-init g c = record { folding = folding-none _ _ _; input = refl; output = refl }

pub line-preserved : goal.line-preserved
line-preserved g c =
    let inv = c.line.invariant in
    let read = c.next_byte.ensures in
    record {
      folding = folding-more _ _ _ _ _ _ _ inv.folding c.in-Some.b _ (rw c.in-Some.is at read.value) c.in-Some.b-test.1 c.with-text.ensures;
      input = read.input ∙ inv.input;
      output = read.output ∙ inv.output;
    }

pub returns-in-None-clause-line : goal.returns-in-None-clause-line
returns-in-None-clause-line g c =
    folded-end _ _ _ _ _ _ _ c.line.invariant.folding (rw c.in-None.is at c.next_byte.ensures.value) c.if-begun.true

pub returns-in-Some-eq10-clause-line : goal.returns-in-Some-eq10-clause-line
returns-in-Some-eq10-clause-line g c =
    let newline = c.in-Some-eq10 in
    folded-newline _ _ _ _ _ _ _ c.line.invariant.folding (rw (newline.is, newline.field-0-test) at c.next_byte.ensures.value)
