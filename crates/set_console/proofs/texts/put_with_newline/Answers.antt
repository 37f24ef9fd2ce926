-- `set_console::texts::put_with_newline` meets its contract: the text and the newline are put.
use Rattle.set_console.proofs.PutLaws.{text-puts}
use Rattle.set_console.proofs.texts.put_with_newline.Goals as goal

pub returns-clause-text : goal.returns-clause-text
returns-clause-text g c = text-puts _ _ _ _ c.requires c.put.ensures.pending
