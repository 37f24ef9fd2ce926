-- The writer gives every record of a set that records can hold, and only of such a set all of them.
use Rattle.std.specs.Prelude.{Ok}
use mathlib.Core.Path.{◌≡◌, ap}
use mathlib.Core.Bool.{Bool, true, not, ◌&&◌, and-false}
use mathlib.Core.List.{List}
use Prim.Native.Nat.{ℕ, ◌+◌, ◌*◌, ◌/◌, ◌≤◌, ◌<◌}
use native.Mathlib.Omega.{arith}
use lib.ListN.{length}
use lib.IntN.{ℤ}
use borrow.Author.Tests.{lt-leb, le-ltb, lt-ltb, not-true, not-false}
use Rattle.general.specs.Below.{some_below}
use Rattle.general.proofs.Sums.{none_below, none_of}
use Rattle.refusal.proofs.Checks.{verdict-append}
use Rattle.design.specs.Stored.{initial_count}
use Rattle.tables.proofs.SetLaws.{set-passed}
use Rattle.encoding.specs.Bytes.{entry_bytes}
use Rattle.records.specs.IntelHex.{data_bytes, data_count, record_count}
use Rattle.records.specs.SetBytes.{entry_count, byte_count, entry_fits, bytes_check, record_set_checks}
use Rattle.record_writing.specs.WriteRecord.{
  hex_number_check,
  has_byte_in,
  record_fits,
  hex_write_verdict,
  hex_write_answer,
  record_buffer_after,
}
use Rattle.record_writing.proofs.GivenLaws.{Given, given, record-given}
use Rattle.storage.specs.Sets.{TableSet}
use Rattle.record_storage.specs.RecordStorage.{record_in, Recordable, HexGives}

-- An entry has a byte in the record that its first byte falls into,
has-byte : (e : ℕ) → has_byte_in (entry_bytes * e / data_bytes) e ≡ true
unfolding has_byte_in
has-byte e =
    let n = entry_bytes * e / data_bytes in
    let behind : data_bytes * n < entry_bytes * (e + 1) = omega arith in
    let before : entry_bytes * e < data_bytes * (n + 1) = omega arith in
    rw (lt-ltb _ _ behind, lt-ltb _ _ before)

-- which is one of the set's.
its-record : (entries e : ℕ) → e < entries → entry_bytes * e / data_bytes < record_count (entry_bytes * entries)
unfolding record_count data_count
its-record entries e h = omega arith

-- A record's entries fit where each entry does, and an entry with a byte in a record whose entries fit does.
module _ (entries initials : ℕ) (initial : List ℕ) (offsets : List ℤ) (n : ℕ) where
  -- what is tried of each entry
  abbrev test : ℕ → Bool
  test e = has_byte_in n e && not (entry_fits initials initial offsets e)

  each_fits : ((e : ℕ) → e < entries → entry_fits initials initial offsets e ≡ true) → record_fits entries initials initial offsets n ≡ true
  unfolding record_fits
  each_fits fit = ap not (none_of entries test (λ e h. rw (fit e h) (and-false (has_byte_in n e))))

  entry-fits : record_fits entries initials initial offsets n ≡ true → (e : ℕ) → e < entries → has_byte_in n e ≡ true
      → entry_fits initials initial offsets e ≡ true
  unfolding record_fits
  entry-fits fit e h has =
      not-false (entry_fits initials initial offsets e) (rw has at (none_below entries test (not-true (some_below entries test) fit) e h))

module _ (t : TableSet) (n : ℕ) (buffer : List ℕ) where
  -- The writer gives each record of a set that records can hold.
  module _ (ok : Recordable t) (within : n < record_count (byte_count t.design)) (room : length (record_in t n) ≤ length buffer) where
    passes : hex_write_verdict t.design t.initial t.offsets n (length buffer) ≡ Ok tt
    unfolding hex_write_verdict record_set_checks bytes_check hex_number_check
    passes =
        rw (
          verdict-append,
          verdict-append,
          set-passed _ _ _ ok.usable,
          le-ltb _ _ ok.addressed,
          lt-leb _ _ within,
          each_fits (entry_count t.design) (initial_count t.design) t.initial t.offsets n ok.fits,
          le-ltb _ _ room,
        )

    pub gives : HexGives t n buffer
    unfolding hex_write_answer record_buffer_after
    gives = record { answer = rw passes; text = rw passes }

  -- What a record that it gives tells
  abbrev GivenOf : Type 0
  GivenOf = Given t.design t.initial t.offsets n (length buffer)

  told : HexGives t n buffer → GivenOf
  told g =
      given t.design t.initial t.offsets n (length buffer)
      (record-given t.design t.initial t.offsets n (length buffer) g.answer)

-- A set of which it gives every record
module _ (t : TableSet) (buffer : List ℕ) (gives : (n : ℕ) → n < record_count (byte_count t.design) → HexGives t n buffer) where
  first-given : GivenOf t 0 buffer
  unfolding record_count
  first-given = told t 0 buffer (gives 0 (omega arith))

  all_fit : (e : ℕ) → e < entry_count t.design → entry_fits (initial_count t.design) t.initial t.offsets e ≡ true
  unfolding byte_count
  all_fit e h =
      let n = entry_bytes * e / data_bytes in
      let g = told t n buffer (gives n (its-record (entry_count t.design) e h)) in
      entry-fits (entry_count t.design) (initial_count t.design) t.initial t.offsets n g.fit e h (has-byte e)

  pub all-given : Recordable t
  all-given = record { usable = first-given.tables; addressed = first-given.addressed; fits = all_fit }
