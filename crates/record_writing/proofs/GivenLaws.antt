-- What a record that the writer gives tells.
use Rattle.refusal.specs.declared.Cause.{Cause}
use Rattle.std.specs.Prelude.{Ok, Result, Err}
use mathlib.Core.Path.{◌≡◌}
use mathlib.Core.Bool.{true}
use mathlib.Core.List.{List, [], ◌∷◌, ◌++◌}
use Prim.Native.Nat.{ℕ, ◌≤◌, ◌<◌}
use native.Mathlib.Omega.{arith}
use lib.ListN.{length}
use lib.IntN.{ℤ}
use borrow.Author.Tests.{ltb-false, leb-false, not-false}
use Rattle.refusal.proofs.Checks.{passed-append, none-fails}
use Rattle.refusal.proofs.Answers.{only-passed}
use Rattle.design.specs.declared.Design.{Design}
use Rattle.design.specs.Stored.{initial_count}
use Rattle.tables.specs.Inputs.{Usable}
use Rattle.tables.specs.Set.{set_checks}
use Rattle.tables.proofs.SetLaws.{usable}
use Rattle.writing.specs.Write.{width_check, room_check}
use Rattle.records.specs.IntelHex.{record_count}
use Rattle.records.specs.SetBytes.{entry_count, byte_count, most_bytes, set_record, bytes_check, record_set_checks}
use Rattle.record_writing.specs.WriteRecord.{hex_number_check, record_fits, hex_write_verdict, hex_write_answer}

module _ (d : Design) (initial : List ℕ) (offsets : List ℤ) (n buffer : ℕ) where
  -- The writer gives a record only where nothing turned it down:
  pub record-given : {count : ℕ} → hex_write_answer d initial offsets n buffer ≡ Ok count
      → hex_write_verdict d initial offsets n buffer ≡ Ok tt
  unfolding hex_write_answer
  record-given {count} e =
      only-passed (λ (answer : Result ℕ Cause). answer ≡ Ok count) _ _ Err
      (λ cause f. let z : ◌≡◌ {A = ℕ} 0 1 = cc in omega arith) e

  -- then the set passes 1 to 10, its bytes have addresses, the record is one of its records, and the entries in it fit.
  pub record Given : Type 0 where
    pub tables : Usable d (length initial) (length offsets)
    pub addressed : byte_count d ≤ most_bytes
    pub within : n < record_count (byte_count d)
    pub fit : record_fits (entry_count d) (initial_count d) initial offsets n ≡ true

  pub given : hex_write_verdict d initial offsets n buffer ≡ Ok tt → Given
  unfolding hex_write_verdict record_set_checks bytes_check hex_number_check
  given e =
      let before = set_checks d (length initial) (length offsets) in
      let fit = record_fits (entry_count d) (initial_count d) initial offsets n in
      let later = hex_number_check d n ∷ width_check fit ∷ room_check (length (set_record d initial offsets n)) buffer ∷ [] in
      let lists = passed-append (before ++ bytes_check d ∷ []) later e in
      let set = passed-append before (bytes_check d ∷ []) lists.0 in
      let asked = none-fails later lists.1 in
      record {
        tables = usable _ _ _ set.0;
        addressed = ltb-false _ _ (none-fails (bytes_check d ∷ []) set.1).0;
        within = leb-false _ _ asked.0;
        fit = not-false fit asked.1.0;
      }
