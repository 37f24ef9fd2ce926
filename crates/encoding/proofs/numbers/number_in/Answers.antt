-- `encoding::numbers::number_in` meets its contract: after i turns it is the number in the first i of the bytes.
use native.Mathlib.Omega.{arith}
use borrow.Author.Rules.{rules}
use Rattle.encoding.proofs.NumberBytes.{counted_none, counted-more, counted-small}
use Rattle.encoding.proofs.numbers.number_in.Goals as goal

pub loop-byte-init : goal.loop-byte-init
loop-byte-init c = counted_none c.requires

pub overflow_mul-number : goal.overflow_mul-number
overflow_mul-number c = omega (arith, counted-small c.loop-byte.invariant c.loop-byte-test.true)

pub loop-byte-preserved : goal.loop-byte-preserved
loop-byte-preserved c = counted-more c.loop-byte.invariant c.loop-byte-test.true (search rules)
