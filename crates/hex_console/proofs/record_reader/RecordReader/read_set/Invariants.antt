-- `hex_console::record_reader::RecordReader::read_set` ends, since no more records are accepted than the set has; each is fed after those
-- before it.
use mathlib.Core.Path.{◌≡◌}
use mathlib.Core.Bool.{false}
use Prim.Native.Nat.{◌-◌}
use lib.ListN.{length}
use Rattle.records.specs.IntelHex.{record_count}
use Rattle.records.specs.SetBytes.{byte_count}
use Rattle.record_reading.specs.ReadRecord.{hex_finished, hex_session}
use Rattle.hex_console.specs.Loaded.{HexCame}
use Rattle.hex_console.proofs.record_reader.RecordReader.read_set.Given as goal

abbrev pub invariant-records : goal.invariant-records
invariant-records g l =
    let i = l.initial in
    record {
      design : l.self.design ≡ l.fn.self.design;
      came : HexCame l.fn.self.design i.initial' i.offsets (hex_session l.self.state l.initial' l.offsets);
      unfinished : hex_finished l.fn.self.design l.self.state ≡ false;
      input : length l.console.input ≡ length i.console.input;
      output : l.console.output ≡ i.console.output;
    }

abbrev pub decreases-records : goal.decreases-records
decreases-records g l = record_count (byte_count l.fn.self.design) - l.self.state.taken
