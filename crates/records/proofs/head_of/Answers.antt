-- `records::head_of` meets its contract: the record that holds no bytes is the end record, any other a data record.
use mathlib.Core.Path.{◌≡◌}
use mathlib.Core.List.{[], ◌∷◌}
use Prim.Native.Nat.{ℕ, ◌+◌, ◌-◌, ◌<◌}
use native.Mathlib.Omega.{arith}
use Rattle.encoding.specs.declared.Frame.{Frame}
use Rattle.encoding.specs.Bytes.{big_endian}
use Rattle.encoding.specs.Inputs.{held}
use Rattle.encoding.proofs.NumberBytes.{Has, Longer, has_more, has-byte}
use Rattle.records.specs.IntelHex.{data_count, record_count, bytes_before, length_at, head_of}
use Rattle.records.proofs.CountLaws.{data-start, some-data, none_end, data_head, end-head, length-small, before_small}
use Rattle.records.proofs.head_of.Goals as goal

-- A first byte, a number of two bytes and a byte are a head.
head-has : (first next frame : Frame) (size address type : ℕ) → type < 256 → Has first (size ∷ []) → Longer next first 2 address
    → Longer frame next 1 type → (held frame ≡ head_of size address type) × (frame.count ≡ 4)
unfolding head_of big_endian
head-has first next frame size address type small had more last =
    has-byte next frame type small (has_more first next (size ∷ []) 2 address had more) last

-- how many bytes the record holds
size_is : (total n after before : ℕ) → after ≡ bytes_before total (n + 1) → before ≡ bytes_before total n
    → after - before ≡ length_at total n
unfolding length_at
size_is total n after before e f = rw (e, f)

pub overflow_add-n : goal.overflow_add-n
unfolding record_count data_count
overflow_add-n c = omega arith

pub overflow_sub-size : goal.overflow_sub-size
unfolding bytes_before
overflow_sub-size c = omega (arith, c.bytes_before-start.ensures, c.bytes_before.ensures)

-- the record has no bytes, or some
pub returns-then-size-eq0 : goal.returns-then-size-eq0
returns-then-size-eq0 c =
    let size : c.bytes_before.result - c.bytes_before-start.result ≡ length_at c.args.total c.args.n =
    size_is _ _ _ _ c.bytes_before.ensures c.bytes_before-start.ensures in
    let a = c.args in
    let none = none_end a.total a.n (omega (arith, size)) in let both = head-has _ _ _ 0 0 1 (omega arith) (c.of_kind.ensures.result_value, c.of_kind.ensures.count_value) (c.with.ensures.result_value, c.with.ensures.count_value) (c.with-then-size-eq0.ensures.result_value, c.with-then-size-eq0.ensures.count_value) in rw (end-head a.total a.n none) (record { result_value = both.0; count_value = both.1 })

pub overflow_cast-size : goal.overflow_cast-size
overflow_cast-size c =
    let size : c.bytes_before.result - c.bytes_before-start.result ≡ length_at c.args.total c.args.n =
    size_is _ _ _ _ c.bytes_before.ensures c.bytes_before-start.ensures in
    let a = c.args in
    omega (arith, size, length-small a.total a.n)

pub overflow_cast-start : goal.overflow_cast-start
overflow_cast-start c =
    let a = c.args in
    omega (arith, c.bytes_before-start.ensures, before_small a.total a.n, c.requires)

pub returns : goal.returns
returns c =
    let size : c.bytes_before.result - c.bytes_before-start.result ≡ length_at c.args.total c.args.n =
    size_is _ _ _ _ c.bytes_before.ensures c.bytes_before-start.ensures in
    let a = c.args in
    let some = some-data a.total a.n (omega (arith, size)) in let both = head-has _ _ _ _ _ 0 (omega arith) (c.of_kind-2.ensures.result_value, c.of_kind-2.ensures.count_value) (c.with-2.ensures.result_value, c.with-2.ensures.count_value) (c.with-3.ensures.result_value, c.with-3.ensures.count_value) in rw (data_head a.total a.n some, ← size, ← data-start a.total a.n some, ← c.bytes_before-start.ensures) (record { result_value = both.0; count_value = both.1 })
