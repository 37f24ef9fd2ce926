-- `console::Console::next_byte` meets its contract: the byte comes from the block that is there, or from the next one.
use mathlib.Core.Path.{sym, ap, ◌∙◌}
use Rattle.console.specs.Blocks.{Blocks}
use Rattle.console.proofs.BlockLaws.{from_block, at-end, from_next}
use Rattle.console.proofs.Console.next_byte.Goals as goal
use Rattle.console.proofs.Console.next_byte.Goals.{then-is_some-via-then-is_some, then-is_some-via-else-is_some+then-self}

pub returns-then-is_some-clause-value : goal.returns-then-is_some-clause-value
returns-then-is_some-clause-value g c =
    let told = c.in_block-left.ensures.value in
    elim c.then-is_some.branch [
      | then-is_some-via-then-is_some w ↦ from_block _ _ _ told (sym c.is_some.ensures ∙ w.if-is_some.true)
      | then-is_some-via-else-is_some+then-self w ↦ at-end _ _ _ told (ap (λ (b : Blocks). b.ended) (sym c.self.view_is) ∙ w.if-self.true)
    ]

pub returns-clause-value : goal.returns-clause-value
returns-clause-value g c =
    from_next _ _ _ c.in_block-left.ensures.value (sym c.is_some.ensures ∙ c.if-is_some.false)
    (ap (λ (b : Blocks). b.ended) (sym c.self.view_is) ∙ c.if-self.false) _ _ _ c.next_block.ensures.fresh c.in_block.ensures.value
