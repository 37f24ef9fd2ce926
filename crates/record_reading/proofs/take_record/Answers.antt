-- `record_reading::take_record` meets its contract: a record that is not due is refused, and of one that is the stream is stored.
use mathlib.Core.Path.{refl}
use Prim.Native.Nat.{◌+◌, ◌-◌, ◌*◌, ◌%◌, ◌<◌}
use native.Mathlib.Omega.{arith}
use lib.ListN.{drop, length-take}
use Rattle.encoding.specs.Bytes.{entry_bytes}
use Rattle.records.specs.IntelHex.{record_count}
use Rattle.record_reading.proofs.WindowLaws.{window-stream}
use Rattle.record_reading.proofs.TakeLaws.{
  all-taken,
  due-told,
  other-due,
  record-due,
  before-fewer,
  length-told,
  held-told,
  head-room,
  store-input,
  state-told,
  table-told,
  refused-outcome,
  taken-outcome,
}
use Rattle.record_reading.proofs.take_record.Goals as goal

pub returns-then-record_count-n : goal.returns-then-record_count-n
returns-then-record_count-n c =
    refused-outcome _ _ c.args.initial.now c.args.offsets.now _ _ _
    (all-taken _ _ _ _ (rw c.record_count.ensures at c.if-record_count-n.true))

pub overflow_sub-length : goal.overflow_sub-length
overflow_sub-length c = before-fewer _ _ _ _ c.bytes_before-before.ensures c.bytes_before.ensures

pub head_fails-requires : goal.head_fails-requires
head_fails-requires c =
    head-room _ _ _ _ c.bytes_before-before.ensures c.bytes_before.ensures _ c.head_of.ensures.count_value

pub returns-then-head_fails : goal.returns-then-head_fails
returns-then-head_fails c =
    let due = due-told _ c.args.state _ _ _ _ _ _ c.head_of.ensures.result_value
    (length-told _ _ _ _ c.bytes_before-before.ensures c.bytes_before.ensures)
    c.head_fails.ensures c.if-head_fails.true in
    refused-outcome _ _ c.args.initial.now c.args.offsets.now _ _ _ (other-due _ _ _ _ due)

pub overflow_add-stream : goal.overflow_add-stream
overflow_add-stream c = omega (arith, head-room _ _ _ _ c.bytes_before-before.ensures c.bytes_before.ensures 4 refl)

-- The window, with the bytes held, has as many bytes as an array.
pub slice_bounds-stream-end : goal.slice_bounds-stream-end
slice_bounds-stream-end c =
    omega (arith, c.with_held.array_long, head-room _ _ _ _ c.bytes_before-before.ensures c.bytes_before.ensures 4 refl)

pub store_entries-requires : goal.store_entries-requires
store_entries-requires c =
    let from = 4 - c.bytes_before-before.result % 3 in
    let size = 4 + (c.bytes_before.result - c.bytes_before-before.result) - from in
    store-input _ _ _ _ c.bytes_before-before.ensures c.bytes_before.ensures refl c.requires.lent
    (omega (arith, length-take size (drop from c.with_held.new.window)))

pub returns : goal.returns
returns c =
    let a = c.args in
    let before-is = c.bytes_before-before.ensures in
    let next-is = c.bytes_before.ensures in
    let within : a.state.taken < record_count (entry_bytes * a.extent.entries) = rw c.record_count.ensures at c.if-record_count-n.false in
    let due = due-told _ a.state _ _ _ _ _ _ c.head_of.ensures.result_value (length-told _ _ _ _ before-is next-is)
    c.head_fails.ensures c.if-head_fails.false in
    let came = window-stream _ a.state a.frame.bytes _ _ _ (held-told _ _ _ _ before-is next-is) (omega arith)
    (length-told _ _ _ _ before-is next-is) c.with_held.ensures in
    taken-outcome a.extent a.state a.initial.now a.offsets.now a.frame.bytes a.frame.count _ _ _ (record-due _ _ _ _ within due)
    (state-told _ _ came c.holding.ensures)
    (table-told _ _ _ _ _ _ _ before-is came c.store_entries.ensures.initial_after)
    (table-told _ _ _ _ _ _ _ before-is came c.store_entries.ensures.offsets_after)
