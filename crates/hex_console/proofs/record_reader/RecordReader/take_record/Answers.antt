-- `hex_console::record_reader::RecordReader::take_record` meets its contract: no line came, or it was fed to the reading.
use Rattle.hex_console.proofs.StepLaws.{none-taken}
use Rattle.hex_console.proofs.record_reader.RecordReader.take_record.Goals as goal

pub returns-in_default-clause-stepped : goal.returns-in_default-clause-stepped
returns-in_default-clause-stepped g c = none-taken _ _
