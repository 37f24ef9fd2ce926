-- What the checks of the writer come to, and the length of the asked record.
use Rattle.std.specs.Prelude.{Ok, Err, Result}
use mathlib.Core.Path.{◌≡◌, ap, ◌∙◌}
use mathlib.Core.Bool.{Bool}
use mathlib.Core.List.{List, [], ◌∷◌, ◌++◌}
use Prim.Native.Nat.{ℕ, ◌+◌, ◌-◌, ◌*◌, ◌≤◌, ◌<◌}
use native.Mathlib.Omega.{arith}
use lib.ListN.{length}
use lib.IntN.{ℤ}
use borrow.Author.Tests.{lt-ltb, le-ltb, le-leb, lt-leb}
use Rattle.general.specs.Lists.{over}
use Rattle.refusal.specs.declared.Cause.{Cause}
use Rattle.refusal.specs.Checks.{verdict}
use Rattle.refusal.specs.Told.{told_by}
use Rattle.refusal.proofs.Checks.{verdict-append}
use Rattle.design.specs.declared.Design.{Design}
use Rattle.design.specs.Stored.{initial_count}
use Rattle.tables.specs.Inputs.{Usable}
use Rattle.tables.specs.Set.{set_checks}
use Rattle.tables.proofs.SetLaws.{set-passed}
use Rattle.encoding.specs.Bytes.{entry_bytes}
use Rattle.encoding.specs.Encode.{line_of}
use Rattle.writing.specs.Write.{width_check, room_check}
use Rattle.writing.proofs.WriteLaws.{refuses-by, writes-by}
use Rattle.records.specs.declared.Extent.{Extent}
use Rattle.records.specs.IntelHex.{data_bytes, record_count, bytes_before, length_at, record_head, record_text, data_in, record_of}
use Rattle.records.specs.SetBytes.{
  entry_count,
  byte_count,
  entry_at,
  bytes_below,
  set_bytes,
  set_record,
  most_bytes,
  bytes_check,
  record_set_checks,
}
use Rattle.records.proofs.CountLaws.{length-small, before-next}
use Rattle.records.proofs.ExtentLaws.{extent-bytes}
use Rattle.records.proofs.BytesLaws.{below_length, set-length, record-length}
use Rattle.record_writing.specs.WriteRecord.{
  hex_number_check,
  record_fits,
  hex_write_verdict,
  hex_write_answer,
  record_buffer_after,
  hex_write_told,
}
use Rattle.record_writing.specs.Inputs.{AskedInput}

-- "1 to 10, 20, then 19, 18, 14"
module _ (d : Design) (initial : List ℕ) (offsets : List ℤ) (n buffer : ℕ) where
  -- A set that is refused by 1 to 10 is refused,
  pub refused-before : {cause : Cause} → verdict (set_checks d (length initial) (length offsets)) ≡ Err cause
      → hex_write_verdict d initial offsets n buffer ≡ Err cause
  unfolding hex_write_verdict record_set_checks
  refused-before e = rw (verdict-append, verdict-append, e)

  module _ (u : Usable d (length initial) (length offsets)) where
    -- one whose bytes have not all an address by 20,
    pub past-addresses : most_bytes < byte_count d → hex_write_verdict d initial offsets n buffer ≡ Err Cause.AddressRange
    unfolding hex_write_verdict record_set_checks bytes_check
    past-addresses h = rw (verdict-append, verdict-append, set-passed _ _ _ u, lt-ltb _ _ h)

    -- a number past the set by 19,
    pub past-records : byte_count d ≤ most_bytes → record_count (byte_count d) ≤ n
        → hex_write_verdict d initial offsets n buffer ≡ Err Cause.LineNumber
    unfolding hex_write_verdict record_set_checks bytes_check hex_number_check
    past-records few h = rw (verdict-append, verdict-append, set-passed _ _ _ u, le-ltb _ _ few, le-leb _ _ h)

    -- and for one within it 18 and 14 are left.
    pub within-records : byte_count d ≤ most_bytes → n < record_count (byte_count d)
        → hex_write_verdict d initial offsets n buffer
        ≡ verdict
        (width_check (record_fits (entry_count d) (initial_count d) initial offsets n)
        ∷ room_check (length (set_record d initial offsets n)) buffer ∷ [])
    unfolding hex_write_verdict record_set_checks bytes_check hex_number_check
    within-records few h = rw (verdict-append, verdict-append, set-passed _ _ _ u, le-ltb _ _ few, lt-leb _ _ h)

-- The record's length, by how many bytes it holds
pub asked-length : (d : Design) (initial : List ℕ) (offsets : List ℤ) (n : ℕ)
    → length (set_record d initial offsets n) ≡ 11 + 2 * length_at (byte_count d) n
unfolding set_record
asked-length d initial offsets n =
    record-length (set_bytes d initial offsets) n ∙ ap (λ total. 11 + 2 * length_at total n) (set-length d initial offsets)

-- A set's extent is what the calls tell, and it has an address for each byte.
pub record Addressed (d : Design) (initial : List ℕ) (offsets : List ℤ) (extent : Extent) : Type 0 where
  pub set : Usable d (length initial) (length offsets)
  pub extent-is : extent ≡ record { initials = initial_count d; entries = entry_count d }
  pub few : byte_count d ≤ most_bytes

module _ {d : Design} {initial : List ℕ} {offsets : List ℤ} {extent : Extent} (at : Addressed d initial offsets extent) where
  total-is : entry_bytes * extent.entries ≡ byte_count d
  total-is = extent-bytes d extent at.extent-is

  -- How many records it has, which the writer finds out by the extent
  pub count-told : {count : ℕ} → count ≡ record_count (entry_bytes * extent.entries) → count ≡ record_count (byte_count d)
  count-told promise = promise ∙ ap record_count total-is

  -- for one of which the writer can put its entries together.
  pub asked-input : (n : ℕ) → n < record_count (byte_count d) → AskedInput extent (length initial) (length offsets) n
  unfolding byte_count entry_count
  asked-input n within =
      let u = at.set in
      rw at.extent-is
      (record { few = at.few; within = within; initial-long = u.initial-long; offsets-long = omega (arith, u.offsets-long) })

-- The asked record, by how many bytes the records before it hold and how many those up to it
pub record Asked (d : Design) (initial : List ℕ) (offsets : List ℤ) (extent : Extent) (n before next : ℕ) : Type 0 where
  pub addressed : Addressed d initial offsets extent
  pub within : n < record_count (byte_count d)
  pub before-is : before ≡ bytes_before (entry_bytes * extent.entries) n
  pub next-is : next ≡ bytes_before (entry_bytes * extent.entries) (n + 1)

module _ {d : Design} {initial : List ℕ} {offsets : List ℤ} {extent : Extent} {n before next : ℕ}
    (asked : Asked d initial offsets extent n before next) where
  asked-total : entry_bytes * extent.entries ≡ byte_count d
  asked-total = total-is asked.addressed

  size_is : next ≡ before + length_at (byte_count d) n
  size_is = rw (asked.next-is, asked.before-is, asked-total) (before-next (byte_count d) n)

  -- It holds 16 bytes at most,
  pub size_from : before ≤ next
  size_from = omega (arith, size_is)

  pub size_small : next - before ≤ data_bytes
  size_small = omega (arith, size_is, length-small (byte_count d) n)

  pub size_told : next - before ≡ length_at (entry_bytes * extent.entries) n
  size_told = omega (arith, size_is, ap (λ total. length_at total n) asked-total)

  -- it has a colon, and two digits for each of them and of the five beside them,
  pub length-told : length (set_record d initial offsets n) ≡ 11 + 2 * (next - before)
  length-told = omega (arith, size_is, asked-length d initial offsets n)

  pub asked-text : {frame : List ℕ} → frame ≡ record_head (entry_bytes * extent.entries) n
      ++ data_in (bytes_below extent.entries (entry_at extent.initials initial offsets)) n
      → 58 ∷ line_of frame ≡ set_record d initial offsets n
  unfolding set_record record_of record_text set_bytes
  asked-text frame_is =
      rw (frame_is, asked.addressed.extent-is, below_length (entry_at (initial_count d) initial offsets) (entry_count d))

  -- and 18 and 14 are left.
  pub settled : (fits : Bool) (buffer : ℕ) → fits ≡ record_fits extent.entries extent.initials initial offsets n
      → hex_write_verdict d initial offsets n buffer
      ≡ verdict (width_check fits ∷ room_check (11 + 2 * (next - before)) buffer ∷ [])
  settled fits buffer promise =
      let at = asked.addressed in
      rw (promise, at.extent-is, ← length-told) (within-records d initial offsets n buffer at.set at.few asked.within)

-- The answer and the record buffer, by the verdict
module _ (d : Design) (initial : List ℕ) (offsets : List ℤ) (n : ℕ) (buffer : List ℕ) where
  -- What is promised of an answer and of what the record buffer is left with
  abbrev pub Promised : Result ℕ Cause → List ℕ → Type 0
  Promised r left = record {
    answer : r ≡ hex_write_answer d initial offsets n (length buffer);
    told : told_by r ≡ hex_write_told d initial offsets n (length buffer);
    record_buffer : left ≡ record_buffer_after d initial offsets n buffer;
  }

  pub refuses : {cause : Cause} → hex_write_verdict d initial offsets n (length buffer) ≡ Err cause
      → Promised (Err cause) buffer
  unfolding hex_write_answer record_buffer_after hex_write_told
  refuses e =
      let p = refuses-by _ (set_record d initial offsets n) buffer e in
      record { answer = p.0; told = p.1.0; record_buffer = p.1.1 }

  pub writes : {count : ℕ} {left : List ℕ} → hex_write_verdict d initial offsets n (length buffer) ≡ Ok tt
      → length (set_record d initial offsets n) ≡ count → left ≡ over buffer 0 (set_record d initial offsets n)
      → Promised (Ok count) left
  unfolding hex_write_answer record_buffer_after hex_write_told
  writes e count-is left_is =
      let p = writes-by _ (set_record d initial offsets n) buffer e count-is left_is in
      record { answer = p.0; told = p.1.0; record_buffer = p.1.1 }
