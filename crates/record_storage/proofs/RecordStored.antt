-- Document 02, A2, the sentence on written records and finished readings, put together.
use native.Mathlib.Omega.{arith}
use Rattle.records.proofs.AddressLaws.{bytes-few}
use Rattle.storage.specs.Sets.{TableSet, Storable}
use Rattle.storage.proofs.FilledFits.{filled-storable, fill-storable}
use Rattle.record_storage.specs.RecordStorage.{Recordable, RecordStorage}
use Rattle.record_storage.proofs.Feeding.{refused-skipped}
use Rattle.record_storage.proofs.ReadingBack.{read_back}
use Rattle.record_storage.proofs.Uniqueness.{unique}
use Rattle.record_storage.proofs.InOrder.{in_order}
use Rattle.record_storage.proofs.Giving.{gives, all-given}
use Rattle.record_storage.proofs.LinesAndRecords.{storable-recordable}

-- No legal set is too large, so records hold every set that lines hold.
stored : (t : TableSet) → Storable t → Recordable t
stored t ok = storable-recordable t ok (omega (arith, bytes-few t.design ok.usable.legal))

pub record-storage : RecordStorage
record-storage =
    record {
      in_order = in_order;
      writes = gives;
      written = all-given;
      reads-back = λ t s ok begins initial offsets. read_back t ok s begins initial offsets;
      unique = unique;
      refused = refused-skipped;
      filled = λ t admitted filled. stored t (filled-storable t admitted.legal filled);
      fills = λ d initial offsets passed. stored _ (fill-storable d initial offsets passed);
      addressed = bytes-few;
    }
