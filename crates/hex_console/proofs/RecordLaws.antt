-- Records that the writer gives.
use Rattle.std.specs.Prelude.{Ok}
use mathlib.Core.Path.{◌≡◌}
use mathlib.Core.List.{List}
use Prim.Native.Nat.{ℕ, ◌+◌, ◌≤◌, ◌<◌}
use native.Mathlib.Omega.{arith}
use lib.ListN.{length, replicate, length-replicate}
use Rattle.records.specs.IntelHex.{record_count, data_count}
use Rattle.records.specs.SetBytes.{byte_count, most_bytes}
use Rattle.records.specs.Record.{longest_record}
use Rattle.records.proofs.AddressLaws.{bytes-few}
use Rattle.record_writing.specs.WriteRecord.{hex_write_verdict}
use Rattle.record_writing.proofs.GivenLaws.{record-given}
use Rattle.record_writing.proofs.LengthLaws.{record-short}
use Rattle.storage.specs.Sets.{TableSet, Storable}
use Rattle.record_storage.specs.RecordStorage.{Recordable}
use Rattle.record_storage.proofs.Giving.{gives}
use Rattle.record_storage.proofs.LinesAndRecords.{lines-and-records}

-- A set whose bytes have addresses has few records.
pub addressed-few : (total : ℕ) → total ≤ most_bytes → record_count total ≤ 4097
unfolding record_count data_count
addressed-few total h = omega arith

-- The writer gives each record of a set that records can hold.
pub each-given : (t : TableSet) → Recordable t → (n : ℕ) → n < record_count (byte_count t.design)
    → hex_write_verdict t.design t.initial t.offsets n (longest_record + 1) ≡ (Ok tt)
each-given t ok n h =
    let buffer : List ℕ = replicate (longest_record + 1) 0 in
    let long : length buffer ≡ longest_record + 1 = length-replicate {A = ℕ} (longest_record + 1) 0 in
    let given = gives t n buffer ok h (omega (arith, long, record-short t.design t.initial t.offsets n)) in
    rw long at (record-given t.design t.initial t.offsets n (length buffer) given.answer)

-- Records can hold every set that lines can: no legal one is too large for their addresses.
pub recordable : (t : TableSet) → Storable t → Recordable t
recordable t storable = lines-and-records.to-records t storable (omega (arith, bytes-few t.design storable.usable.legal))
