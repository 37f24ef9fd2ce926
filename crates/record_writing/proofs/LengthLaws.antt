-- Records that the writer gives: each is one of the set's, and none is too long.
use Rattle.std.specs.Prelude.{Ok}
use mathlib.Core.Path.{◌≡◌}
use mathlib.Core.List.{List}
use Prim.Native.Nat.{ℕ, ◌≤◌, ◌<◌}
use native.Mathlib.Omega.{arith}
use lib.ListN.{length}
use lib.IntN.{ℤ}
use Rattle.design.specs.declared.Design.{Design}
use Rattle.records.specs.IntelHex.{record_count, bytes_before, length_at}
use Rattle.records.specs.SetBytes.{byte_count, set_bytes, set_record}
use Rattle.records.specs.Record.{longest_record}
use Rattle.records.proofs.BytesLaws.{record-length}
use Rattle.record_writing.specs.WriteRecord.{hex_write_verdict}
use Rattle.record_writing.proofs.GivenLaws.{given}

module _ (d : Design) (initial : List ℕ) (offsets : List ℤ) (n : ℕ) where
  pub record-short : length (set_record d initial offsets n) ≤ longest_record
  unfolding set_record length_at bytes_before
  record-short = omega (arith, record-length (set_bytes d initial offsets) n)

  pub record-within : (room : ℕ) → hex_write_verdict d initial offsets n room ≡ Ok tt → n < record_count (byte_count d)
  record-within room passed = (given d initial offsets n room passed).within
