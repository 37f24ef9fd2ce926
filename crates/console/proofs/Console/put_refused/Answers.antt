-- `console::Console::put_refused` is safe: the text lies within its array.
use Rattle.report_text.proofs.TextLaws.{text-counts}
use Rattle.console.proofs.CountLaws.{prefix_len_of_le}
use Rattle.console.proofs.Console.put_refused.Goals as goal

pub put_text-requires : goal.put_text-requires
put_text-requires g c = prefix_len_of_le _ _ (rw c.refused.ensures (text-counts _))
