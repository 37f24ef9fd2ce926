-- `encoding::put_bytes` meets its contract: after i turns the digits of the first i bytes are put, and these bytes are summed.
use Rattle.encoding.proofs.Putting.{Put}
use Rattle.encoding.proofs.put_bytes.Given as goal

abbrev pub invariant-loop-i : goal.invariant-loop-i
invariant-loop-i l = Put l.fn.line l.line l.bytes l.sum l.i
