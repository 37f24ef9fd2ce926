-- What inner calls may count on, which their callers are proved to see to, and what they promise one another.
use Rattle.std.specs.Prelude.{◌≡◌, cond, List, ℕ, ◌+◌, ◌*◌, ◌≤◌, ◌<◌, take, drop, ℤ, Option, Some, None}
use Rattle.encoding.specs.Bytes.{entry_bytes}
use Rattle.records.specs.declared.Extent.{Extent}
use Rattle.records.specs.IntelHex.{record_count, length_at, data_in}
use Rattle.records.specs.SetBytes.{entry_at, entry_fits, bytes_below, most_bytes}

-- How many bytes a window holds
abbrev pub window_bytes : ℕ
window_bytes = 22

-- One of the records of so many entries, whose bytes have addresses, which tables of these lengths hold
pub record AskedInput (extent : Extent) (initial offsets n : ℕ) : Type 0 where
  pub few : entry_bytes * extent.entries ≤ most_bytes
  pub within : n < record_count (entry_bytes * extent.entries)
  pub initial-long : extent.initials ≤ initial
  pub offsets-long : extent.entries ≤ extent.initials + offsets

-- A window in which the bytes of record n stand behind the place of its head
abbrev pub Windowed : ℕ → (ℕ → ℕ) → ℕ → List ℕ → Type 0
Windowed entries number n window =
    take (length_at (entry_bytes * entries) n) (drop 4 window) ≡ data_in (bytes_below entries number) n

-- The number that entry e is written as, where it fits its 3 bytes
unfoldable pub entry_written : ℕ → List ℕ → List ℤ → ℕ → Option ℕ
entry_written initials initial offsets e =
    cond (entry_fits initials initial offsets e) (Some (entry_at initials initial offsets e)) None
