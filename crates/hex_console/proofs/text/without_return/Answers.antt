-- `hex_console::text::without_return` meets its contract: of no bytes, and of bytes with a carriage return at their end or without.
use native.Mathlib.Omega.{arith}
use Rattle.hex_console.proofs.TextLaws.{none_left, return-dropped, nothing-dropped}
use Rattle.hex_console.proofs.text.without_return.Goals as goal

pub returns-then-count-eq0-clause-bytes_value : goal.returns-then-count-eq0-clause-bytes_value
returns-then-count-eq0-clause-bytes_value c = rw c.if-count-eq0.true (none_left c.args.bytes.now)

pub returns-then-bytes-count-eq13-clause-bytes_value : goal.returns-then-bytes-count-eq13-clause-bytes_value
returns-then-bytes-count-eq13-clause-bytes_value c =
    let a = c.args in
    return-dropped a.bytes.now a.count (omega arith) (omega arith) c.if-bytes-count-eq13.true

pub returns-clause-bytes_value : goal.returns-clause-bytes_value
returns-clause-bytes_value c =
    let a = c.args in
    nothing-dropped a.bytes.now a.count (omega arith) (omega arith) c.if-bytes-count-eq13.false
