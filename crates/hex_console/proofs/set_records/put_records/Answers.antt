-- `hex_console::set_records::put_records` meets its contract: the writer gives each record of a set that records can hold.
use native.Mathlib.Omega.{arith}
use Rattle.records.specs.IntelHex.{records_of}
use Rattle.records.specs.SetBytes.{set_record, set_records}
use Rattle.records.proofs.BytesLaws.{set-length}
use Rattle.hex_console.proofs.RecordLaws.{addressed-few, each-given}
use Rattle.hex_console.proofs.set_records.put_records.Goals as goal

pub put_texts-requires : goal.put_texts-requires
put_texts-requires g c =
    record {
      longest = omega arith;
      few = omega (arith, addressed-few _ c.requires.addressed);
      given = each-given _ c.requires;
    }

pub returns-clause-text : goal.returns-clause-text
unfolding set_records set_record records_of
returns-clause-text g c went = rw (set-length _ _ _) (c.put_texts.ensures.text went)
