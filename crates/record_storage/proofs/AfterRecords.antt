-- A reading after n records that hold these bytes, one behind the other: what it has stored and what it holds.
use Rattle.std.specs.Prelude.{Ok}
use mathlib.Core.Path.{◌≡◌, refl, sym, ap, ap₂, ◌∙◌}
use mathlib.Core.Bool.{true, false, not}
use mathlib.Core.List.{List, [], ◌∷◌, ◌++◌}
use Prim.Native.Nat.{ℕ, ◌+◌, ◌/◌, ◌%◌, ◌≤◌, ◌<◌}
use native.Mathlib.Nat.{zero-add}
use native.Mathlib.Omega.{arith}
use lib.ListN.{length, take, get_or}
use lib.IntN.{ℤ}
use borrow.Author.Tests.{le-leb}
use Rattle.design.specs.declared.Design.{Design}
use Rattle.design.specs.Stored.{initial_count}
use Rattle.tables.specs.Inputs.{Usable}
use Rattle.encoding.specs.Bytes.{entry_bytes}
use Rattle.records.specs.IntelHex.{record_count, bytes_before, record_head, record_text}
use Rattle.records.specs.SetBytes.{byte_count, most_bytes}
use Rattle.records.specs.Record.{bytes_in}
use Rattle.record_reading.specs.Storing.{Home, initial_home, offset_home, stored_from, cut_bytes}
use Rattle.record_reading.specs.ReadRecord.{
  held_count,
  unused_fail,
  hex_possible,
  HexSession,
  hex_session,
  hex_verdict_on,
  data_of,
  stream,
  holding,
  hex_moved,
  hex_after,
}
use Rattle.record_reading.proofs.StoringLaws.{cut-length, cut-append, stored-append, stored-length}
use Rattle.record_reading.proofs.WholeSets.{initial_after, offsets_after}
use Rattle.record_storage.proofs.Taking.{PieceOf, piece-passes, piece-data}

-- It began with no record taken, with these tables, of a set of so many initial entries.
abbrev pub read_so : ℕ → List ℕ → List ℤ → ℕ → List ℕ → HexSession
read_so initials initial offsets n bytes =
    hex_session (holding n (cut_bytes bytes)) (initial_after initials bytes initial) (offsets_after initials bytes offsets)

-- No more than two bytes are held: they are found again, and unused ones are 0.
held-back : (bytes : List ℕ) → length bytes ≤ 2 → take (length bytes) (get_or bytes 0 0 ∷ get_or bytes 1 0 ∷ []) ≡ bytes
held-back [] h = refl
held-back (a ∷ []) h = refl
held-back (a ∷ b ∷ []) h = refl
held-back (a ∷ b ∷ c ∷ rest) h = absurd (omega arith)

held-unused : (n : ℕ) (bytes : List ℕ) → length bytes ≤ 2 → unused_fail (length bytes) (holding n bytes) ≡ false
unfolding unused_fail holding
held-unused n [] h = refl
held-unused n (a ∷ []) h = refl
held-unused n (a ∷ b ∷ []) h = refl
held-unused n (a ∷ b ∷ c ∷ rest) h = absurd (omega arith)

-- So a state is possible that holds as many bytes as are cut after n records.
pub cut-possible : (total n : ℕ) (bytes : List ℕ) → length (cut_bytes bytes) ≡ held_count total n → n ≤ record_count total
    → hex_possible total (holding n (cut_bytes bytes)) ≡ true
unfolding hex_possible holding
cut-possible total n bytes held within =
    let short : length (cut_bytes bytes) ≤ 2 = omega (arith, cut-length bytes) in
    rw (le-leb n (record_count total) within) (ap not (rw held at (held-unused n (cut_bytes bytes) short)))

-- n records hold these bytes of so many.
module _ (total n : ℕ) (bytes : List ℕ) (size : length bytes ≡ bytes_before total n) where
  cut-held : length (cut_bytes bytes) ≡ held_count total n
  unfolding held_count
  cut-held = cut-length bytes ∙ ap (λ (k : ℕ). k % entry_bytes) size

  cut_short : length (cut_bytes bytes) ≤ 2
  cut_short = omega (arith, cut-length bytes)

  pub so-possible : n ≤ record_count total → hex_possible total (holding n (cut_bytes bytes)) ≡ true
  so-possible within = cut-possible total n bytes cut-held within

  stream-is : (came piece : List ℕ) → data_of total n came ≡ piece
      → stream total (holding n (cut_bytes bytes)) came ≡ cut_bytes bytes ++ piece
  unfolding stream holding
  stream-is came piece is =
      ap₂ (λ (held rest : List ℕ). held ++ rest) (rw cut-held at (held-back (cut_bytes bytes) cut_short)) is

  -- One record more
  module _ (piece : List ℕ) where
    table_more : {A : Type 0} (home : Home A) (table : List A)
        → stored_from home (bytes_before total n / entry_bytes) (cut_bytes bytes ++ piece) (stored_from home 0 bytes table)
        ≡ stored_from home 0 (bytes ++ piece) table
    table_more home table = sym (stored-append home 0 bytes piece table ∙ rw (zero-add, size))

    one_more : (initials : ℕ) (initial : List ℕ) (offsets : List ℤ) (came : List ℕ) → data_of total n came ≡ piece
        → hex_moved initials total (read_so initials initial offsets n bytes) came
        ≡ read_so initials initial offsets (n + 1) (bytes ++ piece)
    unfolding holding
    one_more initials initial offsets came is =
        rw (
          stream-is came piece is,
          ← cut-append bytes piece,
          table_more (initial_home initials) initial,
          table_more (offset_home initials) offsets,
        )

-- The record that is due to it is accepted, and comes behind the bytes that it has.
module _ (d : Design) (initial : List ℕ) (offsets : List ℤ) (n : ℕ) (bytes : List ℕ) (size : length bytes ≡ bytes_before (byte_count d) n)
    (piece : List ℕ) (fits : PieceOf (byte_count d) n piece) where
  abbrev now : HexSession
  now = read_so (initial_count d) initial offsets n bytes

  abbrev due : List ℕ
  due = record_text (record_head (byte_count d) n) piece

  pub due-passes : Usable d (length initial) (length offsets) → byte_count d ≤ most_bytes → n < record_count (byte_count d)
      → hex_verdict_on d now due ≡ Ok tt
  unfolding holding
  due-passes tables addressed within =
      let initial-kept = stored-length (initial_home (initial_count d)) 0 bytes initial in
      let offsets-kept = stored-length (offset_home (initial_count d)) 0 bytes offsets in
      piece-passes d now (record {
        tables = rw (initial-kept, offsets-kept) tables;
        addressed = addressed;
        possible = so-possible (byte_count d) n bytes size (omega arith);
        within = within;
      }) piece fits

  pub due-moves : (s : HexSession) (text : List ℕ) → s ≡ now → text ≡ due → hex_verdict_on d s text ≡ Ok tt
      → hex_after d s text ≡ read_so (initial_count d) initial offsets (n + 1) (bytes ++ piece)
  unfolding hex_after
  due-moves s text is-now is-due passes =
      rw (passes, is-now, is-due)
      (one_more (byte_count d) n bytes size piece (initial_count d) initial offsets (bytes_in due) (piece-data (byte_count d) n piece fits))
