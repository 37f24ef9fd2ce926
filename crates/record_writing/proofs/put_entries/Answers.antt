-- `record_writing::put_entries` meets its contract: the entries that were looked at fit and stand in the window, and the others have no byte
-- in the record.
use mathlib.Core.Path.{◌≡◌, refl, sym, ◌∙◌}
use mathlib.Core.Bool.{true≢false}
use Prim.Native.Nat.{ℕ, ◌+◌, ◌-◌, ◌*◌, ◌/◌, ◌%◌, ◌≤◌, ◌<◌}
use native.Mathlib.Omega.{arith}
use Rattle.encoding.specs.Bytes.{entry_bytes}
use Rattle.records.specs.IntelHex.{data_count, record_count, bytes_before}
use Rattle.records.specs.Inputs.{EntryIn}
use Rattle.records.proofs.CountLaws.{before_small}
use Rattle.records.specs.declared.Extent.{Extent}
use Rattle.record_writing.specs.Inputs.{window_bytes, AskedInput}
use Rattle.record_writing.proofs.FitsLaws.{first_in, past_in, fit-more, past-small, first_small, written, unwritten, one-unfit, all_fit}
use Rattle.record_writing.proofs.WindowLaws.{putting-none, putting-more, entries-few, put-window}
use Rattle.record_writing.proofs.put_entries.Goals as goal

-- Where the entries of a record begin and end, by the bytes before it and those up to its end
module _ (entries n before next : ℕ) (before-is : before ≡ bytes_before (entry_bytes * entries) n)
    (next-is : next ≡ bytes_before (entry_bytes * entries) (n + 1)) where
  first-is : before / entry_bytes ≡ first_in entries n
  first-is = rw before-is

  past_is : (next + 2) / entry_bytes ≡ past_in entries n
  past_is = rw next-is

  -- An entry between lies within the tables, and there is room for it.
  module _ (e : ℕ) (low : before / entry_bytes ≤ e) (high : e < (next + 2) / entry_bytes) where
    entry-in : {extent : Extent} {initial offsets : ℕ} → AskedInput extent initial offsets n → extent.entries ≡ entries
        → EntryIn extent.initials initial offsets e
    entry-in asked e-is =
        let within : e < entries = omega (arith, past_is, past-small entries n) in
        record {
          in-initial = λ h. omega (arith, asked.initial-long);
          in-offsets = λ h. omega (arith, asked.offsets-long, within);
        }

    room : 4 + entry_bytes * e - before + entry_bytes ≤ window_bytes
    room = omega (arith, first-is, past_is, entries-few entries n)

    place : 4 + entry_bytes * e - before ≡ 4 - before % entry_bytes + entry_bytes * (e - before / entry_bytes)
    place = omega arith

pub overflow_add-n : goal.overflow_add-n
unfolding record_count data_count
overflow_add-n c =
    let a = c.requires.asked_input in
    omega (arith, a.few, a.within)

pub overflow_add-end : goal.overflow_add-end
overflow_add-end c =
    omega (arith, c.bytes_before.ensures, before_small (entry_bytes * c.args.extent.entries) (c.args.n + 1), c.requires.asked_input.few)

pub loop-e-init : goal.loop-e-init
loop-e-init c = record { fit = λ k low high. absurd (omega arith); put = putting-none _ _ _ c.args.window.now _ c.requires.window_len }

pub entry_number-requires : goal.entry_number-requires
entry_number-requires c =
    entry-in _ _ _ _ c.bytes_before-start.ensures c.bytes_before.ensures c.loop-e.e c.loop-e.auto.e c.loop-e-test.true c.requires.asked_input refl

pub overflow_add-e : goal.overflow_add-e
overflow_add-e c =
    let a = c.args in
    omega (
      arith,
      past_is _ a.n _ _ c.bytes_before-start.ensures c.bytes_before.ensures,
      past-small a.extent.entries a.n,
      c.requires.asked_input.few,
      c.loop-e-test.true,
    )

pub returns-in_default : goal.returns-in_default
returns-in_default c =
    let a = c.args in
    let start = c.bytes_before-start.ensures in
    let end = c.bytes_before.ensures in
    let low : first_in a.extent.entries a.n ≤ c.loop-e.e = omega (arith, first-is _ _ _ _ start end, c.loop-e.auto.e) in
    let high : c.loop-e.e < past_in a.extent.entries a.n = omega (arith, past_is _ _ _ _ start end, c.loop-e-test.true) in
    record {
      value = sym (one-unfit _ _ _ _ _ _ low high (unwritten _ _ _ _ (sym c.entry_number.ensures ∙ c.in_default.is)));
      windowed = λ e. absurd (true≢false (sym e));
    }

pub put_entry-requires : goal.put_entry-requires
put_entry-requires c =
    omega (
      arith,
      room _ _ _ _ c.bytes_before-start.ensures c.bytes_before.ensures c.loop-e.e c.loop-e.auto.e c.loop-e-test.true,
      c.loop-e.invariant.put.long,
    )

pub loop-e-preserved : goal.loop-e-preserved
loop-e-preserved c =
    let part = c.loop-e.invariant in
    let entry = written _ _ _ _ (sym c.entry_number.ensures ∙ c.in-Some.is) in
    let start = c.bytes_before-start.ensures in
    let end = c.bytes_before.ensures in
    let within : c.loop-e.e < entry_bytes * c.args.extent.entries / entry_bytes =
    omega (arith, past_is _ c.args.n _ _ start end, past-small c.args.extent.entries c.args.n, c.loop-e-test.true) in
    record {
      fit = fit-more _ _ _ _ _ part.fit entry.0;
      put = rw (c.put_entry.ensures, entry.1)
          (putting-more _ _ _ part.put within c.requires.window_len _ (place _ _ _ _ start end c.loop-e.e c.loop-e.auto.e c.loop-e-test.true)
          (room _ _ _ _ start end c.loop-e.e c.loop-e.auto.e c.loop-e-test.true));
    }

pub returns : goal.returns
returns c =
    let a = c.args in
    let start = c.bytes_before-start.ensures in
    let end = c.bytes_before.ensures in
    let entries : entry_bytes * a.extent.entries / entry_bytes ≡ a.extent.entries = omega arith in
    let all : c.loop-e.e ≡ past_in a.extent.entries a.n =
    omega (
      arith,
      first-is _ a.n _ _ start end,
      past_is _ a.n _ _ start end,
      first_small a.extent.entries a.n,
      c.loop-e.auto.e-end,
      c.loop-e-test.false,
    ) in
    let fit = rw (first-is _ _ _ _ start end, all) at c.loop-e.invariant.fit in
    let put = rw (entries, start, all) at c.loop-e.invariant.put in
    record {
      value = sym (all_fit a.extent.entries a.n _ _ _ fit);
      windowed = λ e. put-window _ a.extent.entries a.n c.requires.window_len put;
    }
