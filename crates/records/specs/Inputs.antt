-- What inner calls may count on. Their callers are proved to see to it.
use Rattle.std.specs.Prelude.{ℕ, ◌-◌, ◌≤◌, ◌<◌}
use Rattle.records.specs.IntelHex.{record_count}
use Rattle.records.specs.SetBytes.{most_bytes}

-- So many records of so many bytes, which addresses of two bytes reach
pub record CountInput (total n : ℕ) : Type 0 where
  pub few : total ≤ most_bytes
  pub within : n ≤ record_count total

-- One of the records of so many bytes
pub record RecordInput (total n : ℕ) : Type 0 where
  pub few : total ≤ most_bytes
  pub within : n < record_count total

-- Entry e lies within tables of these lengths; so many entries are initial entries.
pub record EntryIn (initials initial offsets e : ℕ) : Type 0 where
  pub in-initial : e < initials → e < initial
  pub in-offsets : initials ≤ e → e - initials < offsets
