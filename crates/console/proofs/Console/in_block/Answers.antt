-- `console::Console::in_block` meets its contract: a byte is left, or none is.
use native.Mathlib.Nat.{lt_of_lt_of_le}
use borrow.Author.Tests.{lt-ltb}
use Rattle.console.proofs.BlockLaws.{byte_left, used-up}
use Rattle.console.proofs.Console.in_block.Goals as goal

pub returns-then-self-clause-value : goal.returns-then-self-clause-value
returns-then-self-clause-value g c = rw (← c.self.view_is) (byte_left _ c.if-self.true (lt-ltb _ _ (lt_of_lt_of_le c.if-self.true c.self.invariant.0)))

pub returns-clause-value : goal.returns-clause-value
returns-clause-value g c = rw (← c.self.view_is) (used-up _ c.if-self.false)
