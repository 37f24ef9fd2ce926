-- `console::Console::put_report` is safe: the text lies within its array.
use Rattle.report_text.specs.Report.{report_of}
use Rattle.report_text.proofs.TextLaws.{text-counts}
use Rattle.console.proofs.CountLaws.{prefix_len_of_le}
use Rattle.console.proofs.Console.put_report.Goals as goal

pub put_text-requires : goal.put_text-requires
unfolding report_of
put_text-requires g c = prefix_len_of_le _ _ (rw c.report.ensures (text-counts _))
