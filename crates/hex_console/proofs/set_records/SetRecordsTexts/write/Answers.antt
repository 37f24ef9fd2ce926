-- `hex_console::set_records::SetRecords` as `Texts`: `write` gives the records as `write_record` does.
use Rattle.record_writing.specs.WriteRecord.{hex_write_answer, record_buffer_after}
use Rattle.hex_console.proofs.set_records.SetRecordsTexts.write.Goals as goal

pub returns-clause-answer : goal.returns-clause-answer
unfolding hex_write_answer
returns-clause-answer c = c.write_record.ensures.answer

pub returns-clause-buffer : goal.returns-clause-buffer
unfolding record_buffer_after
returns-clause-buffer c = c.write_record.ensures.record_buffer
