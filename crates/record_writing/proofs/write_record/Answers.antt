-- `record_writing::write_record` meets its contract: the verdict of the set, then 20, the number, the record's own checks, the record.
use Rattle.std.specs.Prelude.{Ok}
use Rattle.std.proofs.lemmas.Result.{err_from_is_err_and}
use mathlib.Core.Path.{◌≡◌, sym, ap, ◌∙◌}
use mathlib.Core.Bool.{true}
use mathlib.Core.List.{List, ◌++◌}
use Prim.Native.Nat.{ℕ, ◌+◌, ◌-◌, ◌*◌, ◌≤◌, ◌<◌}
use native.Mathlib.Omega.{arith}
use borrow.Author.Rules.{rules}
use borrow.Author.Tests.{lt-ltb, le-ltb}
use lib.IntN.{ℤ}
use lib.ListN.{length, take}
use lib.Seq.{length-take-le}
use Rattle.general.specs.Lists.{over}
use Rattle.refusal.specs.Checks.{verdict}
use Rattle.design.specs.declared.Design.{Design}
use Rattle.design.specs.Stored.{initial_count}
use Rattle.tables.specs.Set.{set_checks}
use Rattle.tables.proofs.SetLaws.{usable}
use Rattle.encoding.specs.Bytes.{entry_bytes}
use Rattle.records.specs.declared.Extent.{Extent}
use Rattle.records.specs.IntelHex.{record_head, data_in, record_count, bytes_before}
use Rattle.records.specs.SetBytes.{entry_at, bytes_below, entry_count, byte_count, most_bytes}
use Rattle.records.proofs.ExtentLaws.{extent-bytes, bytes-bounded}
use Rattle.record_writing.specs.Inputs.{window_bytes}
use Rattle.record_writing.proofs.WindowLaws.{window-record}
use Rattle.record_writing.proofs.AskedLaws.{
  Addressed,
  count-told,
  asked-input,
  Asked,
  size_from,
  size_small,
  size_told,
  length-told,
  asked-text,
  settled,
  refused-before,
  past-addresses,
  past-records,
  refuses,
  writes,
}
use Rattle.record_writing.proofs.write_record.Goals as goal

-- The set's verdict passed, and its bytes have addresses.
addressed : {d : Design} {initial : List ℕ} {offsets : List ℤ} {extent : Extent} → Ok tt ≡ verdict (set_checks d (length initial) (length offsets))
    → extent ≡ record { initials = initial_count d; entries = entry_count d } → entry_bytes * extent.entries ≤ most_bytes
    → Addressed d initial offsets extent
addressed {d} {initial} {offsets} {extent} passed extent-is few =
    record { set = usable _ _ _ (sym passed); extent-is = extent-is; few = rw (extent-bytes d extent extent-is) at few }

pub returns-in_err-legal : goal.returns-in_err-legal
returns-in_err-legal c =
    let r = err_from_is_err_and c.from_residual.result c.from_residual.ensures.1 in
    rw (r.1, r.2) (refuses _ _ _ _ _ (refused-before _ _ _ _ _ (sym c.in_err-legal.ensures.verdict)))

pub overflow_mul-total : goal.overflow_mul-total
overflow_mul-total c =
    let d = c.args.d in
    let u = usable d _ _ (sym c.in_ok-legal.ensures.verdict) in
    omega (arith, extent-bytes d _ (rw c.in_ok-legal.ensures.same at c.extent_of-extent.ensures), bytes-bounded d u.legal)

pub returns-then-total-gt-MOST_BYTES : goal.returns-then-total-gt-MOST_BYTES
returns-then-total-gt-MOST_BYTES c =
    let total-is = extent-bytes _ _ (rw c.in_ok-legal.ensures.same at c.extent_of-extent.ensures) in
    refuses _ _ _ _ _
    (past-addresses _ _ _ _ _ (usable _ _ _ (sym c.in_ok-legal.ensures.verdict)) (omega (arith, total-is, c.if-total-gt-MOST_BYTES.true)))

pub returns-then-record_count-number : goal.returns-then-record_count-number
returns-then-record_count-number c =
    let at : Addressed c.args.d c.args.initial.now c.args.offsets.now c.extent_of-extent.result = (addressed c.in_ok-legal.ensures.verdict (rw c.in_ok-legal.ensures.same at c.extent_of-extent.ensures) c.if-total-gt-MOST_BYTES.false) in
    refuses _ _ _ _ _
    (past-records _ _ _ _ _ at.set at.few (omega (arith, count-told at c.record_count.ensures, c.if-record_count-number.true)))

pub put_entries-fits-requires : goal.put_entries-fits-requires
put_entries-fits-requires c =
    let at : Addressed c.args.d c.args.initial.now c.args.offsets.now c.extent_of-extent.result = (addressed c.in_ok-legal.ensures.verdict (rw c.in_ok-legal.ensures.same at c.extent_of-extent.ensures) c.if-total-gt-MOST_BYTES.false) in
    let within : c.args.number < record_count (byte_count c.args.d) =
    omega (arith, count-told at c.record_count.ensures, c.if-record_count-number.false) in
    record { asked_input = asked-input at _ within; window_len = search rules }

-- The number is one of a record.
asked : {d : Design} {initial : List ℕ} {offsets : List ℤ} {extent : Extent} {n count before next : ℕ} → Addressed d initial offsets extent
    → count ≡ record_count (entry_bytes * extent.entries) → n < count → before ≡ bytes_before (entry_bytes * extent.entries) n
    → next ≡ bytes_before (entry_bytes * extent.entries) (n + 1) → Asked d initial offsets extent n before next
asked at count-is less before-is next-is =
    record { addressed = at; within = omega (arith, count-told at count-is); before-is = before-is; next-is = next-is }

pub overflow_sub-size : goal.overflow_sub-size
overflow_sub-size c = size_from (asked (addressed c.in_ok-legal.ensures.verdict (rw c.in_ok-legal.ensures.same at c.extent_of-extent.ensures) c.if-total-gt-MOST_BYTES.false) c.record_count.ensures c.if-record_count-number.false c.bytes_before-2.ensures c.bytes_before.ensures)

pub overflow_mul-characters : goal.overflow_mul-characters
overflow_mul-characters c = omega (arith, size_small (asked (addressed c.in_ok-legal.ensures.verdict (rw c.in_ok-legal.ensures.same at c.extent_of-extent.ensures) c.if-total-gt-MOST_BYTES.false) c.record_count.ensures c.if-record_count-number.false c.bytes_before-2.ensures c.bytes_before.ensures))

pub overflow_add-characters : goal.overflow_add-characters
overflow_add-characters c = omega (arith, size_small (asked (addressed c.in_ok-legal.ensures.verdict (rw c.in_ok-legal.ensures.same at c.extent_of-extent.ensures) c.if-total-gt-MOST_BYTES.false) c.record_count.ensures c.if-record_count-number.false c.bytes_before-2.ensures c.bytes_before.ensures))

pub returns-then-not-fits : goal.returns-then-not-fits
returns-then-not-fits c =
    refuses _ _ _ _ _ (settled (asked (addressed c.in_ok-legal.ensures.verdict (rw c.in_ok-legal.ensures.same at c.extent_of-extent.ensures) c.if-total-gt-MOST_BYTES.false) c.record_count.ensures c.if-record_count-number.false c.bytes_before-2.ensures c.bytes_before.ensures) _ _ c.put_entries-fits.ensures.value ∙ rw c.if-not-fits.true)

pub returns-then-record-characters : goal.returns-then-record-characters
returns-then-record-characters c =
    let narrow : c.put_entries-fits.result ≡ true = search rules in
    refuses _ _ _ _ _ (settled (asked (addressed c.in_ok-legal.ensures.verdict (rw c.in_ok-legal.ensures.same at c.extent_of-extent.ensures) c.if-total-gt-MOST_BYTES.false) c.record_count.ensures c.if-record_count-number.false c.bytes_before-2.ensures c.bytes_before.ensures) _ _ c.put_entries-fits.ensures.value ∙ rw (narrow, lt-ltb _ _ c.if-record-characters.true))

pub slice_bounds-window-end : goal.slice_bounds-window-end
slice_bounds-window-end c =
    let full : length c.put_head.new.window ≡ window_bytes = search rules in
    omega (arith, full, size_small (asked (addressed c.in_ok-legal.ensures.verdict (rw c.in_ok-legal.ensures.same at c.extent_of-extent.ensures) c.if-total-gt-MOST_BYTES.false) c.record_count.ensures c.if-record_count-number.false c.bytes_before-2.ensures c.bytes_before.ensures))

pub slice_bounds-put_record-end : goal.slice_bounds-put_record-end
slice_bounds-put_record-end c =
    let full : length c.put_head.new.window ≡ window_bytes = search rules in
    let share : 4 + (c.bytes_before.result - c.bytes_before-2.result) ≤ length c.put_head.new.window =
    omega (arith, full, size_small (asked (addressed c.in_ok-legal.ensures.verdict (rw c.in_ok-legal.ensures.same at c.extent_of-extent.ensures) c.if-total-gt-MOST_BYTES.false) c.record_count.ensures c.if-record_count-number.false c.bytes_before-2.ensures c.bytes_before.ensures)) in
    sym (length-take-le _ _ share)

pub put_record-requires : goal.put_record-requires
put_record-requires c =
    let few = size_small (asked (addressed c.in_ok-legal.ensures.verdict (rw c.in_ok-legal.ensures.same at c.extent_of-extent.ensures) c.if-total-gt-MOST_BYTES.false) c.record_count.ensures c.if-record_count-number.false c.bytes_before-2.ensures c.bytes_before.ensures) in
    let full : length c.put_head.new.window ≡ window_bytes = search rules in
    let share : 4 + (c.bytes_before.result - c.bytes_before-2.result) ≤ length c.put_head.new.window = omega (arith, full, few) in
    rw (length-take-le _ _ share)
    (record { bytes_len_bound = omega (arith, few); bytes_in_bounds = omega (arith, c.if-record-characters.false) })

pub returns : goal.returns
returns c =
    let a = c.args in
    let extent = c.extent_of-extent.result in
    let known : Asked a.d a.initial.now a.offsets.now extent a.number c.bytes_before-2.result c.bytes_before.result = asked (addressed c.in_ok-legal.ensures.verdict (rw c.in_ok-legal.ensures.same at c.extent_of-extent.ensures) c.if-total-gt-MOST_BYTES.false) c.record_count.ensures c.if-record_count-number.false c.bytes_before-2.ensures c.bytes_before.ensures in
    let number = entry_at extent.initials a.initial.now a.offsets.now in
    let count = 4 + (c.bytes_before.result - c.bytes_before-2.result) in
    let all = bytes_below extent.entries number in
    let put = c.put_entries-fits.ensures.windowed c.if-not-fits.false in
    let bytes : take count c.put_head.new.window ≡ record_head (entry_bytes * extent.entries) a.number ++ data_in all a.number =
    rw (c.put_head.ensures, size_told known) (window-record number extent.entries a.number _ put) in
    writes _ _ _ _ _
    (settled known _ _ c.put_entries-fits.ensures.value ∙ rw (c.if-not-fits.false, le-ltb _ _ c.if-record-characters.false))
    (length-told known)
    (c.put_record.ensures ∙ ap (over _ 0) (asked-text known bytes))
