-- `record_reading::HexReading::next` meets its contract: the set is tried, then its bytes, the state, the record, and then
-- what is due.
use Rattle.std.proofs.lemmas.Result.{err_from_is_err_and}
use mathlib.Core.Path.{◌≡◌, sym, ◌∙◌}
use mathlib.Core.Bool.{true}
use Prim.Native.Nat.{◌*◌, ◌≤◌}
use native.Mathlib.Omega.{arith}
use lib.ListN.{length}
use Rattle.general.proofs.Tests.{tested}
use Rattle.tables.specs.Inputs.{Usable}
use Rattle.tables.proofs.SetLaws.{usable}
use Rattle.encoding.specs.Bytes.{entry_bytes}
use Rattle.records.specs.SetBytes.{byte_count, most_bytes}
use Rattle.records.proofs.ExtentLaws.{extent-bytes, bytes-bounded}
use Rattle.record_reading.specs.ReadRecord.{hex_possible}
use Rattle.record_reading.proofs.ReadLaws.{set-refuses, large-refused, impossible-refused, unsound-refused}
use Rattle.record_reading.proofs.ReadSteps.{record-failed, record-passed, record-whole, record-refused, taken-input, record-taken}
use Rattle.record_reading.proofs.HexReading.next.Goals as goal

pub returns-in_err-legal : goal.returns-in_err-legal
returns-in_err-legal c =
    let r = err_from_is_err_and c.from_residual.result c.from_residual.ensures.1 in
    rw (r.1, r.2)
    (record-refused _ _ c.args.initial.now c.args.offsets.now _ _ (set-refuses _ _ _ _ (sym c.in_err-legal.ensures.verdict)))

pub overflow_mul-total : goal.overflow_mul-total
overflow_mul-total c =
    let set-usable : (let a = c.args in Usable a.d (length a.initial.now) (length a.offsets.now)) =
    usable _ _ _ (sym c.in_ok-legal.ensures.verdict) in
    let total-is : entry_bytes * c.extent_of-extent.result.entries ≡ byte_count c.args.d =
    extent-bytes _ _ (rw c.in_ok-legal.ensures.same at c.extent_of-extent.ensures) in
    let a = c.args in
    omega (arith, total-is, bytes-bounded a.d set-usable.legal)

pub returns-then-total-gt-MOST_BYTES : goal.returns-then-total-gt-MOST_BYTES
returns-then-total-gt-MOST_BYTES c =
    let set-usable : (let a = c.args in Usable a.d (length a.initial.now) (length a.offsets.now)) =
    usable _ _ _ (sym c.in_ok-legal.ensures.verdict) in
    let total-is : entry_bytes * c.extent_of-extent.result.entries ≡ byte_count c.args.d =
    extent-bytes _ _ (rw c.in_ok-legal.ensures.same at c.extent_of-extent.ensures) in
    record-refused _ _ c.args.initial.now c.args.offsets.now _ _
    (large-refused _ _ _ set-usable (rw total-is at c.if-total-gt-MOST_BYTES.true))

pub returns-then-not-is_possible : goal.returns-then-not-is_possible
returns-then-not-is_possible c =
    let set-usable : (let a = c.args in Usable a.d (length a.initial.now) (length a.offsets.now)) =
    usable _ _ _ (sym c.in_ok-legal.ensures.verdict) in
    let total-is : entry_bytes * c.extent_of-extent.result.entries ≡ byte_count c.args.d =
    extent-bytes _ _ (rw c.in_ok-legal.ensures.same at c.extent_of-extent.ensures) in
    let small : byte_count c.args.d ≤ most_bytes =
    rw total-is at c.if-total-gt-MOST_BYTES.false in
    record-refused _ _ c.args.initial.now c.args.offsets.now _ _
    (impossible-refused _ _ _ set-usable small
    (rw total-is at (tested c.is_possible.ensures c.if-not-is_possible.true)))

pub returns-in_err-frame : goal.returns-in_err-frame
returns-in_err-frame c =
    let set-usable : (let a = c.args in Usable a.d (length a.initial.now) (length a.offsets.now)) =
    usable _ _ _ (sym c.in_ok-legal.ensures.verdict) in
    let total-is : entry_bytes * c.extent_of-extent.result.entries ≡ byte_count c.args.d =
    extent-bytes _ _ (rw c.in_ok-legal.ensures.same at c.extent_of-extent.ensures) in
    let small : byte_count c.args.d ≤ most_bytes =
    rw total-is at c.if-total-gt-MOST_BYTES.false in
    let state-possible : (let a = c.args in hex_possible (byte_count a.d) a.self ≡ true) =
    rw total-is at (tested c.is_possible.ensures c.if-not-is_possible.false) in
    let r = err_from_is_err_and c.from_residual-in_err-frame.result c.from_residual-in_err-frame.ensures.1 in
    rw (r.1, r.2)
    (record-refused _ _ c.args.initial.now c.args.offsets.now _ _
    (unsound-refused _ _ _ set-usable small state-possible _ (record-failed _ (sym c.decode_record.ensures ∙ c.in_err-frame.was))))

pub take_record-requires : goal.take_record-requires
take_record-requires c =
    let set-usable : (let a = c.args in Usable a.d (length a.initial.now) (length a.offsets.now)) =
    usable _ _ _ (sym c.in_ok-legal.ensures.verdict) in
    let total-is : entry_bytes * c.extent_of-extent.result.entries ≡ byte_count c.args.d =
    extent-bytes _ _ (rw c.in_ok-legal.ensures.same at c.extent_of-extent.ensures) in
    let small : byte_count c.args.d ≤ most_bytes =
    rw total-is at c.if-total-gt-MOST_BYTES.false in
    let state-possible : (let a = c.args in hex_possible (byte_count a.d) a.self ≡ true) =
    rw total-is at (tested c.is_possible.ensures c.if-not-is_possible.false) in
    taken-input _ _ c.args.initial.now c.args.offsets.now c.args.«record».now set-usable small
    state-possible _ (rw c.in_ok-legal.ensures.same at c.extent_of-extent.ensures)

pub returns : goal.returns
returns c =
    let set-usable : (let a = c.args in Usable a.d (length a.initial.now) (length a.offsets.now)) =
    usable _ _ _ (sym c.in_ok-legal.ensures.verdict) in
    let total-is : entry_bytes * c.extent_of-extent.result.entries ≡ byte_count c.args.d =
    extent-bytes _ _ (rw c.in_ok-legal.ensures.same at c.extent_of-extent.ensures) in
    let small : byte_count c.args.d ≤ most_bytes =
    rw total-is at c.if-total-gt-MOST_BYTES.false in
    let state-possible : (let a = c.args in hex_possible (byte_count a.d) a.self ≡ true) =
    rw total-is at (tested c.is_possible.ensures c.if-not-is_possible.false) in
    let held = sym c.decode_record.ensures ∙ c.in_ok-frame.was in
    let whole = record-whole _ held in
    record-taken _ _ c.args.initial.now c.args.offsets.now _ set-usable small state-possible _ (rw c.in_ok-legal.ensures.same at c.extent_of-extent.ensures)
    (record-passed _ held) _ _ _
    (record {
      value = rw whole at c.take_record.ensures.value;
      initial_after = rw whole at c.take_record.ensures.initial_after;
      offsets_after = rw whole at c.take_record.ensures.offsets_after;
    })
