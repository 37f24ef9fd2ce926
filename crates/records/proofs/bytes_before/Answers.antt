-- `records::bytes_before` meets its contract: it is the least of the two numbers.
use native.Mathlib.Omega.{arith}
use Rattle.records.specs.IntelHex.{data_count, record_count, bytes_before}
use Rattle.records.proofs.bytes_before.Goals as goal

pub overflow_mul-n : goal.overflow_mul-n
unfolding record_count data_count
overflow_mul-n c = omega arith

pub returns : goal.returns
unfolding bytes_before
returns c = omega (arith, c.min.ensures)
