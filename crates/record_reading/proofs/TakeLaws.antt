-- A sound record in a possible state: whether it is the one due, and what it brings.
use Rattle.std.specs.Prelude.{Result, Ok, Err}
use mathlib.Core.Path.{◌≡◌, refl, sym, ap, ◌∙◌}
use mathlib.Core.Bool.{Bool, true, false, or-true}
use mathlib.Core.List.{List}
use Prim.Native.Nat.{ℕ, ◌+◌, ◌-◌, ◌*◌, ◌/◌, ◌%◌, ◌≤◌, ◌<◌}
use native.Mathlib.Omega.{arith}
use lib.IntN.{ℤ}
use lib.ListN.{length, take, drop, length-drop}
use lib.Seq.{take_all}
use borrow.Author.Tests.{le-leb, lt-leb}
use Rattle.general.proofs.Tests.{tested}
use Rattle.refusal.specs.declared.Cause.{Cause}
use Rattle.refusal.specs.Checks.{answer}
use Rattle.encoding.specs.Bytes.{entry_bytes}
use Rattle.frames.specs.Line.{capacity}
use Rattle.reading.specs.ReadLine.{head_fails}
use Rattle.records.specs.declared.Extent.{Extent}
use Rattle.records.specs.IntelHex.{data_bytes, record_count, bytes_before, length_at, record_head}
use Rattle.records.proofs.CountLaws.{length-small, before_small}
use Rattle.record_reading.specs.declared.HexReading.{HexReading}
use Rattle.record_reading.specs.Storing.{Home, initial_home, offset_home, stored_from, cut_bytes}
use Rattle.record_reading.specs.ReadRecord.{held_count, record_due_check, HexSession, hex_session, stream, holding}
use Rattle.record_reading.specs.Inputs.{Lent, StoreInput, due_verdict, after_record}
use Rattle.record_reading.proofs.StoringLaws.{cut-drop}

-- The verdict of 22
module _ (total : ℕ) (state : HexReading) (bytes : List ℕ) (count : ℕ) where
  -- With all records taken none is due,
  pub all-taken : record_count total ≤ state.taken → due_verdict total state bytes count ≡ Err Cause.RecordDue
  unfolding due_verdict record_due_check
  all-taken h = rw (le-leb _ _ h)

  -- and otherwise the one that begins with this head.
  abbrev pub not_due : Bool
  not_due = head_fails (record_head total state.taken) (length_at total state.taken) bytes count

  pub due-told : (head : List ℕ) (size : ℕ) (result answer : Bool) → head ≡ record_head total state.taken
      → size ≡ length_at total state.taken → result ≡ head_fails head size bytes count → result ≡ answer → not_due ≡ answer
  due-told head size result answer head-is size_is promise branch = rw (head-is, size_is) at (tested promise branch)

  pub other-due : not_due ≡ true → due_verdict total state bytes count ≡ Err Cause.RecordDue
  unfolding due_verdict record_due_check
  other-due e = rw (e, or-true)

  pub record-due : state.taken < record_count total → not_due ≡ false → due_verdict total state bytes count ≡ Ok tt
  unfolding due_verdict record_due_check
  record-due h e = rw (lt-leb _ _ h, e)

-- How many bytes record n holds, from how many the records before it hold and those up to it
module _ (total n before next : ℕ) (before-is : before ≡ bytes_before total n) (next-is : next ≡ bytes_before total (n + 1)) where
  pub before-fewer : before ≤ next
  unfolding bytes_before
  before-fewer = omega arith

  pub length-told : next - before ≡ length_at total n
  unfolding length_at
  length-told = rw (before-is, next-is)

  pub held-told : before % entry_bytes ≡ held_count total n
  unfolding held_count
  held-told = rw before-is

  length-few : next - before ≤ data_bytes
  length-few = rw length-told (length-small total n)

  -- A head of 4 bytes and the record's data have room in an array.
  pub head-room : (head : ℕ) → head ≡ 4 → head + (next - before) ≤ capacity
  head-room head head-is = omega (arith, length-few)

  -- The bytes held and the data make no entries whole but those of the set, and would not with the sum byte behind them.
  pub store-input : {extent : Extent} {initial offsets size : ℕ} → total ≡ entry_bytes * extent.entries → Lent extent initial offsets
      → size ≤ before % 3 + (next - before) + 1 → StoreInput extent initial offsets (before / 3) size
  store-input total-is lent few =
      record { lent = lent; within = omega (arith, before_small total (n + 1), before-fewer) }

-- The bytes that whole entries leave, as the end of the stream
cut_end : (part : List ℕ) → let from = length part - length part % 3 in take (length part - from) (drop from part) ≡ cut_bytes part
cut_end part =
    let place : length part - length part % 3 ≡ entry_bytes * (length part / entry_bytes) = omega arith in
    rw (place, take_all (length part - entry_bytes * (length part / entry_bytes)) (drop (entry_bytes * (length part / entry_bytes)) part) (omega (arith, length-drop (entry_bytes * (length part / entry_bytes)) part)))
    (sym (cut-drop part))

-- The state and a table after the stream
pub state-told : (taken : ℕ) (part : List ℕ) {came : List ℕ} {next : HexReading} → part ≡ came
    → (let from = length part - length part % 3 in next ≡ holding taken (take (length part - from) (drop from part)))
    → next ≡ holding taken (cut_bytes came)
state-told taken part came-is next-is = next-is ∙ ap (holding taken) (cut_end part ∙ ap cut_bytes came-is)

pub table-told : {A : Type 0} (home : Home A) (before₀ before : ℕ) (part came : List ℕ) (table after : List A) → before ≡ before₀
    → part ≡ came → after ≡ stored_from home (before / entry_bytes) part table → after ≡ stored_from home (before₀ / entry_bytes) came table
table-told home before₀ before part came table after before-is came-is after_is = rw (← before-is, ← came-is) after_is

-- What a sound record has to come to: this next state or refusal, and these tables
abbrev pub Outcome : Extent → HexSession → List ℕ → ℕ → Result HexReading Cause → List ℕ → List ℤ → Type 0
Outcome extent s bytes count result initial offsets =
    let after = after_record extent s bytes count in
    record {
      value : result ≡ answer (due_verdict (entry_bytes * extent.entries) s.state bytes count) after.state;
      initial_after : initial ≡ after.initial;
      offsets_after : offsets ≡ after.offsets;
    }

module _ (extent : Extent) (state : HexReading) (initial : List ℕ) (offsets : List ℤ) (bytes : List ℕ) (count : ℕ) where
  -- A record that is not due leaves everything as it was.
  pub refused-outcome : (cause : Cause) → due_verdict (entry_bytes * extent.entries) state bytes count ≡ Err cause
      → Outcome extent (hex_session state initial offsets) bytes count (Err cause) initial offsets
  unfolding after_record
  refused-outcome cause e = rw e (record { value = refl; initial_after = refl; offsets_after = refl })

  -- One that is due brings its stream.
  pub taken-outcome : (next : HexReading) (initial-after : List ℕ) (offsets-after : List ℤ)
      → due_verdict (entry_bytes * extent.entries) state bytes count ≡ Ok tt
      → let total = entry_bytes * extent.entries in
      let came = stream total state bytes in
      let e = bytes_before total state.taken / entry_bytes in
      next ≡ holding (state.taken + 1) (cut_bytes came)
      → initial-after ≡ stored_from (initial_home extent.initials) e came initial
      → offsets-after ≡ stored_from (offset_home extent.initials) e came offsets
      → Outcome extent (hex_session state initial offsets) bytes count (Ok next) initial-after offsets-after
  unfolding after_record
  taken-outcome next initial-after offsets-after passed next-is initial-is offsets-is =
      rw passed (record { value = rw next-is; initial_after = initial-is; offsets_after = offsets-is })
