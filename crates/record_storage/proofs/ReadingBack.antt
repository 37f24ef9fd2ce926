-- Written records read back to the same set.
use Rattle.std.specs.Prelude.{Ok}
use mathlib.Core.Path.{◌≡◌, refl, sym, ap, ◌∙◌}
use mathlib.Core.List.{List, [], ◌∷◌, ◌++◌}
use Prim.Native.Nat.{ℕ, zero, suc, ◌+◌, ◌-◌, ◌*◌, ◌≤◌}
use native.Mathlib.Nat.{le_refl}
use native.Mathlib.Numerals.{add-one}
use native.Mathlib.Omega.{arith}
use lib.ListN.{length, take, drop}
use lib.Seq.{take_all, length-take-le}
use borrow.Author.Tests.{le-ltb, eq-eqb}
use Rattle.general.specs.Below.{list_below}
use Rattle.general.proofs.Tests.{both_so}
use Rattle.refusal.specs.Checks.{verdict, passes}
use Rattle.refusal.proofs.Checks.{verdict-append}
use Rattle.design.specs.declared.Design.{Design}
use Rattle.design.specs.Stored.{initial_count, offset_total}
use Rattle.design.specs.Legal.{design_verdict, design_checks}
use Rattle.design.specs.Same.{Same}
use Rattle.tables.specs.Inputs.{Usable}
use Rattle.encoding.specs.Bytes.{entry_bytes}
use Rattle.records.specs.IntelHex.{data_bytes, record_count, bytes_before, record_head, record_text, data_in, record_of, records_of}
use Rattle.records.specs.SetBytes.{entry_count, byte_count, set_bytes, set_record, set_records, bytes_check}
use Rattle.records.proofs.CountLaws.{before-none, before-all, before_small}
use Rattle.records.proofs.BytesLaws.{part_bytes, set-length, set-bytes, data-length, data-next}
use Rattle.record_reading.specs.ReadRecord.{hex_finished, HexSession, holding}
use Rattle.record_reading.specs.Storing.{stored_from, cut_bytes}
use Rattle.record_reading.proofs.WholeSets.{initial-back, offset-back, initial-beyond, offset-beyond}
use Rattle.storage.specs.Sets.{TableSet}
use Rattle.record_storage.specs.Loading.{no_record, HexFinished, hex_feed}
use Rattle.record_storage.specs.RecordStorage.{Recordable, records_in, HexReadsBack}
use Rattle.record_storage.proofs.Taking.{PieceOf}
use Rattle.record_storage.proofs.AfterRecords.{read_so, so-possible, due-passes, due-moves}
use Rattle.record_storage.proofs.Feeding.{Reached, reached-none, reached-more}

module _ (t : TableSet) (ok : Recordable t) (s : HexSession) (begins : s.state ≡ no_record)
    (initial-long : initial_count t.design ≤ length s.initial) (offsets-long : offset_total t.design ≤ length s.offsets) where
  abbrev d : Design
  d = t.design

  abbrev total : ℕ
  total = byte_count d

  abbrev bytes : List ℕ
  bytes = set_bytes d t.initial t.offsets

  long : length bytes ≡ total
  long = set-length d t.initial t.offsets

  tables : Usable d (length s.initial) (length s.offsets)
  tables = record { legal = ok.usable.legal; initial-long = initial-long; offsets-long = offsets-long }

  -- The bytes of the first n records, and those of record n
  abbrev front : ℕ → List ℕ
  front n = take (bytes_before total n) bytes

  front_length : (n : ℕ) → length (front n) ≡ bytes_before total n
  front_length n = length-take-le (bytes_before total n) bytes (omega (arith, long, before_small total n))

  piece : (n : ℕ) → PieceOf total n (data_in bytes n)
  unfolding data_in
  piece n =
      record {
        small = part_bytes bytes (set-bytes d t.initial t.offsets) (data_bytes * n) data_bytes;
        size = rw long at (data-length bytes n);
      }

  front-more : (n : ℕ) → front n ++ data_in bytes n ≡ front (n + 1)
  front-more n = sym (rw long at (data-next bytes n))

  record_is : (n : ℕ) → set_record d t.initial t.offsets n ≡ record_text (record_head total n) (data_in bytes n)
  unfolding set_record record_of
  record_is n = rw long

  -- The reading after n records
  abbrev read : ℕ → HexSession
  read n = read_so (initial_count d) s.initial s.offsets n (front n)

  start : s ≡ read 0
  unfolding holding stored_from cut_bytes
  start = rw (before-none total, begins)

  reached : (n : ℕ) → n ≤ record_count total → Reached d (set_record d t.initial t.offsets) s n (read n)
  reached zero h = rw (← start) (reached-none d (set_record d t.initial t.offsets) s)
  reached (suc n) h =
      let held = data_in bytes n in
      let passes = due-passes d s.initial s.offsets n (front n) (front_length n) held (piece n) tables ok.addressed h in
      let moves = due-moves d s.initial s.offsets n (front n) (front_length n) held (piece n) (read n) _ refl refl passes in
      reached-more d (set_record d t.initial t.offsets) s n (read n) (read (suc n)) (reached n (omega arith))
      (rw (record_is n) passes) (rw (record_is n) (moves ∙ rw (front-more n, add-one)))

  -- The reading after all records
  abbrev all : ℕ
  all = record_count total

  front-all : front all ≡ bytes
  front-all = take_all (bytes_before total all) bytes (omega (arith, long, before-all total))

  abbrev end : HexSession
  end = read_so (initial_count d) s.initial s.offsets all bytes

  reached-all : Reached d (set_record d t.initial t.offsets) s all end
  reached-all = rw front-all at (reached all (le_refl _))

  all-records : records_in t ≡ list_below all (set_record d t.initial t.offsets)
  unfolding set_records set_record records_of
  all-records = rw long

  comes-to-end : hex_feed d s (records_in t) ≡ end
  comes-to-end = rw all-records reached-all.comes-to

  legal-addressed : verdict (design_checks d ++ bytes_check d ∷ []) ≡ Ok tt
  unfolding design_verdict bytes_check
  legal-addressed = rw (verdict-append, ok.usable.legal, le-ltb _ _ ok.addressed)

  finished : HexFinished d end
  unfolding hex_finished holding
  finished =
      let possible = so-possible total all bytes (long ∙ sym (before-all total)) (le_refl _) in
      both_so _ _ (both_so _ _ (ap passes legal-addressed) possible) (eq-eqb all all refl)

  -- Every entry is back, and what lies beyond the entries stands.
  entries : entry_count d ≡ initial_count d + offset_total d
  unfolding entry_count
  entries = refl

  offset-entries : entry_count d - initial_count d ≡ offset_total d
  offset-entries = omega (arith, entries)

  initial-same : take (initial_count d) end.initial ≡ take (initial_count d) t.initial
  unfolding set_bytes
  initial-same =
      initial-back (initial_count d) (entry_count d) t.initial t.offsets ok.fits s.initial s.offsets initial-long
      (omega (arith, entries)) (omega (arith, entries)) ok.usable.initial-long

  offsets-same : take (offset_total d) end.offsets ≡ take (offset_total d) t.offsets
  unfolding set_bytes
  offsets-same =
      rw offset-entries at
      (offset-back (initial_count d) (entry_count d) t.initial t.offsets ok.fits s.initial s.offsets initial-long
      (omega (arith, entries)) (omega (arith, entries, ok.usable.offsets-long)))

  size : length bytes ≡ entry_bytes * entry_count d
  unfolding byte_count
  size = long

  initial-stands : drop (initial_count d) end.initial ≡ drop (initial_count d) s.initial
  initial-stands = initial-beyond (initial_count d) (entry_count d) bytes size s.initial s.offsets

  offsets-stand : drop (offset_total d) end.offsets ≡ drop (offset_total d) s.offsets
  offsets-stand = rw offset-entries at (offset-beyond (initial_count d) (entry_count d) bytes size s.initial s.offsets)

  itself : Same d d
  itself = record { kind = refl; w = refl; q = refl; g = refl; alpha = refl; m = refl; tables = refl }

  pub read_back : HexReadsBack t s (hex_feed d s (records_in t))
  read_back =
      rw comes-to-end
      (record {
        all-accepted = rw all-records reached-all.all-taken;
        finished = finished;
        same = record { design = itself; initial = initial-same; offsets = offsets-same };
        initial-beyond = initial-stands;
        offsets-beyond = offsets-stand;
      })
