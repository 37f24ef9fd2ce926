-- What inner calls may count on, which their callers are proved to see to, and what they promise one another.
use Rattle.std.specs.Prelude.{List, [], ◌∷◌, ℕ, ◌+◌, ◌*◌, ◌/◌, ◌≤◌}
use Rattle.refusal.specs.Verdict.{Verdict}
use Rattle.refusal.specs.Checks.{verdict, if_passed}
use Rattle.encoding.specs.Bytes.{entry_bytes}
use Rattle.records.specs.declared.Extent.{Extent}
use Rattle.records.specs.IntelHex.{record_count}
use Rattle.records.specs.SetBytes.{most_bytes}
use Rattle.record_reading.specs.declared.HexReading.{HexReading}
use Rattle.record_reading.specs.ReadRecord.{HexSession, record_due_check, hex_moved}

-- Tables of these lengths hold so many entries, whose bytes have addresses.
pub record Lent (extent : Extent) (initial offsets : ℕ) : Type 0 where
  pub few : entry_bytes * extent.entries ≤ most_bytes
  pub initial-long : extent.initials ≤ initial
  pub offsets-long : extent.entries ≤ extent.initials + offsets

-- So many bytes are those of entries from e on: the entries that they make whole lie among all entries.
pub record StoreInput (extent : Extent) (initial offsets e size : ℕ) : Type 0 where
  pub lent : Lent extent initial offsets
  pub within : e + size / entry_bytes ≤ extent.entries

-- A state that does not have more records taken than the set has
pub record TakenInput (extent : Extent) (state : HexReading) (initial offsets : ℕ) : Type 0 where
  pub lent : Lent extent initial offsets
  pub within : state.taken ≤ record_count (entry_bytes * extent.entries)

-- The verdict of 22 alone, and the reading after a sound record
unfoldable pub due_verdict : ℕ → HexReading → List ℕ → ℕ → Verdict
due_verdict total state bytes count = verdict (record_due_check total state bytes count ∷ [])

unfoldable pub after_record : Extent → HexSession → List ℕ → ℕ → HexSession
after_record extent s bytes count =
    let total = entry_bytes * extent.entries in
    if_passed (due_verdict total s.state bytes count) (hex_moved extent.initials total s bytes) (λ cause. s)
