-- `hex_console::record_reader::RecordReader::take_text` meets its contract: the reader refused the record or accepted it.
use Rattle.std.proofs.lemmas.Result.{err_from_is_err_and}
use Rattle.hex_console.proofs.StepLaws.{record-refused, record-taken}
use Rattle.hex_console.proofs.record_reader.RecordReader.take_text.Goals as goal

pub returns-in_err-read-clause-stepped : goal.returns-in_err-read-clause-stepped
returns-in_err-read-clause-stepped c =
    let r = err_from_is_err_and c.from_residual.result c.from_residual.ensures.1 in
    let e = c.read_record-read.ensures in
    rw (r.1, r.2) (record-refused _ _ _ _ _ _ _ _ e.answer e.initial_table e.offset_tables _ c.in_err-read.was)

pub returns-clause-stepped : goal.returns-clause-stepped
returns-clause-stepped c =
    let e = c.read_record-read.ensures in
    rw (c.came_of.ensures, c.is_finished.ensures) (record-taken _ _ _ _ _ _ _ _ e.answer e.initial_table e.offset_tables c.in_ok-read.was)
