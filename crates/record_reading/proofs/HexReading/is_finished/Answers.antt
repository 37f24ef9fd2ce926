-- `record_reading::HexReading::is_finished` meets its contract: the design is tried, then its bytes, then the state, and then the number of
-- records.
use mathlib.Core.Path.{◌≡◌, sym}
use Prim.Native.Nat.{◌*◌}
use native.Mathlib.Omega.{arith}
use Rattle.general.proofs.Tests.{tested}
use Rattle.design.specs.Legal.{Legal}
use Rattle.encoding.specs.Bytes.{entry_bytes}
use Rattle.records.specs.SetBytes.{byte_count}
use Rattle.records.proofs.ExtentLaws.{extent-bytes, bytes-bounded}
use Rattle.record_reading.proofs.StateLaws.{
  illegal-unfinished,
  large-unfinished,
  impossible-unfinished,
  finished-by-count,
}
use Rattle.record_reading.proofs.HexReading.is_finished.Goals as goal

pub returns-in_default : goal.returns-in_default
returns-in_default c = sym (illegal-unfinished _ _ _ (sym c.in_default.ensures.verdict))

pub overflow_mul-total : goal.overflow_mul-total
overflow_mul-total c =
    let legal : Legal c.args.d = sym c.in-Ok.ensures.verdict in
    let total-is : entry_bytes * c.extent_of-total.result.entries ≡ byte_count c.args.d =
    extent-bytes _ _ (rw c.in-Ok.ensures.same at c.extent_of-total.ensures) in
    let a = c.args in
    omega (arith, total-is, bytes-bounded a.d legal)

pub returns-then-total-gt-MOST_BYTES : goal.returns-then-total-gt-MOST_BYTES
returns-then-total-gt-MOST_BYTES c =
    let legal : Legal c.args.d = sym c.in-Ok.ensures.verdict in
    let total-is : entry_bytes * c.extent_of-total.result.entries ≡ byte_count c.args.d =
    extent-bytes _ _ (rw c.in-Ok.ensures.same at c.extent_of-total.ensures) in
    sym (large-unfinished _ _ legal (rw total-is at c.if-total-gt-MOST_BYTES.true))

pub returns-then-is_possible : goal.returns-then-is_possible
returns-then-is_possible c =
    let legal : Legal c.args.d = sym c.in-Ok.ensures.verdict in
    let total-is : entry_bytes * c.extent_of-total.result.entries ≡ byte_count c.args.d =
    extent-bytes _ _ (rw c.in-Ok.ensures.same at c.extent_of-total.ensures) in
    finished-by-count _ _ legal _ total-is c.if-total-gt-MOST_BYTES.false _ c.record_count.ensures
    (tested c.is_possible.ensures c.if-is_possible.true)

pub returns-else-is_possible : goal.returns-else-is_possible
returns-else-is_possible c =
    let legal : Legal c.args.d = sym c.in-Ok.ensures.verdict in
    let total-is : entry_bytes * c.extent_of-total.result.entries ≡ byte_count c.args.d =
    extent-bytes _ _ (rw c.in-Ok.ensures.same at c.extent_of-total.ensures) in
    impossible-unfinished _ _ legal _ total-is c.if-total-gt-MOST_BYTES.false _ c.is_possible.ensures c.if-is_possible.false
