-- `set_console::set_reader::SetReader::feed_line` meets its contract: the reader refused the line or accepted it.
use Rattle.set_console.proofs.FeedLaws.{fed-refused, fed-taken}
use Rattle.set_console.proofs.set_reader.SetReader.feed_line.Goals as goal

pub returns-in_err-read-clause-reading : goal.returns-in_err-read-clause-reading
returns-in_err-read-clause-reading c =
    let e = c.read_line-read.ensures in
    (fed-refused _ _ _ _ _ _ _ e.answer e.initial_table e.offset_tables _ c.in_err-read.was).0

pub returns-clause-reading : goal.returns-clause-reading
returns-clause-reading c =
    let e = c.read_line-read.ensures in
    (fed-taken _ _ _ _ _ _ _ e.answer e.initial_table e.offset_tables c.in_ok-read.was).0

pub returns-clause-came : goal.returns-clause-came
returns-clause-came c =
    let e = c.read_line-read.ensures in
    rw (c.came_of-came.ensures, c.is_finished.ensures) (fed-taken _ _ _ _ _ _ _ e.answer e.initial_table e.offset_tables c.in_ok-read.was).1
