-- Document 02, A4, of an initial entry that is 2^(P+2) or more: "Reader and writer of lines refuse it where it occurs; the Intel HEX
-- records still carry it." Apart from such entries, and from sets whose bytes have no addresses (20), lines and records hold the same sets.
use Rattle.std.specs.Prelude.{ℕ, ◌*◌, ◌^◌, ◌≤◌, ◌<◌, get_or, set}
use Rattle.design.specs.Cut.{sum_limit}
use Rattle.design.specs.Stored.{initial_count}
use Rattle.encoding.specs.Bytes.{entry_bytes}
use Rattle.records.specs.SetBytes.{byte_count, most_bytes}
use Rattle.storage.specs.Sets.{TableSet, Storable}
use Rattle.record_storage.specs.RecordStorage.{Recordable}

-- The set with an initial entry changed
abbrev pub with_entry : TableSet → ℕ → ℕ → TableSet
with_entry t index entry = record { design = t.design; initial = set t.initial index entry; offsets = t.offsets }

pub record LinesAndRecords : Type 0 where
  -- records hold every set that lines hold, if its bytes have addresses,
  pub to-records : (t : TableSet) → Storable t → byte_count t.design ≤ most_bytes → Recordable t
  -- and lines hold every set that records hold, if none of its initial entries is 2^(P+2) or more;
  pub to-lines : (t : TableSet) → Recordable t
      → ((index : ℕ) → index < initial_count t.design → get_or t.initial index 0 < sum_limit t.design) → Storable t
  -- in records any initial entry may be changed to any that fits its 3 bytes,
  pub still-carried : (t : TableSet) (index entry : ℕ) → Recordable t → entry < 2 ^ (8 * entry_bytes) → Recordable (with_entry t index entry)
  -- and lines hold no set with one that is 2^(P+2) or more.
  pub not-in-lines : (t : TableSet) (index : ℕ) → index < initial_count t.design → sum_limit t.design ≤ get_or t.initial index 0
      → Storable t → ⊥
