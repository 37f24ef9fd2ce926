-- What is put after something else keeps the blocks.
use mathlib.Core.Path.{◌∙◌}
use Rattle.console.specs.Blocks.{Blocks}
use Rattle.console.specs.Reading.{KeepsBlocks}

pub kept-more : (a b c : Blocks) → KeepsBlocks a b → KeepsBlocks b c → KeepsBlocks a c
kept-more a b c first next = (
  (next.0.0 ∙ first.0.0, next.0.1 ∙ first.0.1, next.0.2 ∙ first.0.2, next.0.3 ∙ first.0.3),
  next.1 ∙ first.1,
)
