-- `encoding::numbers::number_in` meets its contract: after i turns it is the number in the first i of the bytes.
use Rattle.encoding.proofs.NumberBytes.{Counting}
use Rattle.encoding.proofs.numbers.number_in.Given as goal

abbrev pub invariant-loop-byte : goal.invariant-loop-byte
invariant-loop-byte l = Counting l.bytes l.number l.byte-index
