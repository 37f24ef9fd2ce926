-- Document 02, A2: "Reading the written records restores every entry, and a finished reading accepts only the writer's records."
use Rattle.std.specs.Prelude.{◌≡◌, true, List, ◌++◌, ℕ, ◌≤◌, ◌<◌, length, drop, ℤ, Ok}
use Rattle.design.specs.declared.Design.{Design}
use Rattle.design.specs.Stored.{initial_count, offset_total}
use Rattle.design.specs.Legal.{Legal}
use Rattle.design.specs.Budget.{Admitted}
use Rattle.tables.specs.Inputs.{Usable}
use Rattle.filling.specs.Fill.{fill_verdict, initial_after, offsets_after, Filled}
use Rattle.records.specs.IntelHex.{record_count}
use Rattle.records.specs.SetBytes.{entry_count, byte_count, entry_fits, set_record, set_records, most_bytes}
use Rattle.record_writing.specs.WriteRecord.{hex_write_answer, record_buffer_after}
use Rattle.record_reading.specs.ReadRecord.{HexSession}
use Rattle.storage.specs.Sets.{TableSet, SameSet}
use Rattle.record_storage.specs.RecordFile.{record_file}
use Rattle.record_storage.specs.Loading.{no_record, HexFinished, hex_feed, hex_accepted}

-- Record n of a set, and all its records in order
abbrev pub record_in : TableSet → ℕ → List ℕ
record_in t n = set_record t.design t.initial t.offsets n

abbrev pub records_in : TableSet → List (List ℕ)
records_in t = set_records t.design t.initial t.offsets

-- A set that records can hold: its design is legal, its tables are long enough, its bytes have addresses (20), and each entry fits (18).
pub record Recordable (t : TableSet) : Type 0 where
  pub usable : Usable t.design (length t.initial) (length t.offsets)
  pub addressed : byte_count t.design ≤ most_bytes
  pub fits : (e : ℕ) → e < entry_count t.design → entry_fits (initial_count t.design) t.initial t.offsets e ≡ true

-- Asked for record n, the writer answers the record's length and leaves the record at the start of the buffer.
pub record HexGives (t : TableSet) (n : ℕ) (buffer : List ℕ) : Type 0 where
  pub answer : hex_write_answer t.design t.initial t.offsets n (length buffer) ≡ Ok (length (record_in t n))
  pub text : record_buffer_after t.design t.initial t.offsets n buffer ≡ record_in t n ++ drop (length (record_in t n)) buffer

-- The set that a reading for a design has come to
abbrev pub loaded_in : Design → HexSession → TableSet
loaded_in d s = record { design = d; initial = s.initial; offsets = s.offsets }

-- "Reading the written records restores every entry"; what lies beyond the set is as it was.
pub record HexReadsBack (t : TableSet) (s end : HexSession) : Type 0 where
  pub all-accepted : hex_accepted t.design s (records_in t) ≡ records_in t
  pub finished : HexFinished t.design end
  pub same : SameSet (loaded_in t.design end) t
  pub initial-beyond : drop (initial_count t.design) end.initial ≡ drop (initial_count t.design) s.initial
  pub offsets-beyond : drop (offset_total t.design) end.offsets ≡ drop (offset_total t.design) s.offsets

-- "a finished reading accepts only the writer's records": those of the set that it ends with
pub record HexCameFrom (t : TableSet) (came : List (List ℕ)) : Type 0 where
  pub recordable : Recordable t
  pub records : came ≡ records_in t

-- Refused records do not count: without them a reading comes to the same, and every other record is accepted again.
pub record HexSkipped (d : Design) (s : HexSession) (texts : List (List ℕ)) : Type 0 where
  pub comes-to : hex_feed d s (hex_accepted d s texts) ≡ hex_feed d s texts
  pub accepts : hex_accepted d s (hex_accepted d s texts) ≡ hex_accepted d s texts

-- The sentence, whole, and that what the fill writes can be stored
pub record RecordStorage : Type 0 where
  -- the records are those of document 02's list, in its order
  pub in_order : (t : TableSet) → records_in t ≡ record_file t
  -- the writer gives every record of a set that records can hold,
  pub writes : (t : TableSet) (n : ℕ) (buffer : List ℕ) → Recordable t → n < record_count (byte_count t.design)
      → length (record_in t n) ≤ length buffer → HexGives t n buffer
  -- and records can hold a set of which it gives every record
  pub written : (t : TableSet) (buffer : List ℕ) → ((n : ℕ) → n < record_count (byte_count t.design) → HexGives t n buffer)
      → Recordable t
  -- the records of such a set lead every reading that is begun into tables long enough to the same set
  pub reads-back : (t : TableSet) (s : HexSession) → Recordable t → s.state ≡ no_record
      → initial_count t.design ≤ length s.initial → offset_total t.design ≤ length s.offsets
      → HexReadsBack t s (hex_feed t.design s (records_in t))
  -- and a reading that is finished, begun with no record taken, accepted exactly the writer's records, whatever was fed
  pub unique : (d : Design) (s : HexSession) (texts : List (List ℕ)) → s.state.taken ≡ 0 → HexFinished d (hex_feed d s texts)
      → HexCameFrom (loaded_in d (hex_feed d s texts)) (hex_accepted d s texts)
  -- refused records change nothing
  pub refused : (d : Design) (s : HexSession) (texts : List (List ℕ)) → HexSkipped d s texts
  -- what the fill writes can be stored: of an admitted design, all tables that begin with the entries the fill writes for it,
  pub filled : (t : TableSet) → Admitted t.design → Filled t.design t.initial t.offsets → Recordable t
  -- and what an accepted fill leaves
  pub fills : (d : Design) (initial : List ℕ) (offsets : List ℤ) → fill_verdict d (length initial) (length offsets) ≡ Ok tt
      → Recordable (record { design = d; initial = initial_after d initial offsets; offsets = offsets_after d initial offsets })
  -- 20 is "never so within 01's limits, where a set takes at most 61,440"
  pub addressed : (d : Design) → Legal d → byte_count d ≤ 61440
