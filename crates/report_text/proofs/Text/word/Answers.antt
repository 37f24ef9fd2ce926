-- `Text::word` meets its contract: the word is copied behind the text.
use native.Mathlib.Omega.{arith}
use Rattle.report_text.proofs.TextLaws.{copied_behind}
use Rattle.report_text.proofs.Text.word.Goals as goal

pub returns-clause-text : goal.returns-clause-text
returns-clause-text c t e = rw e (copied_behind t c.args.word.now _ _ c.copy_from_slice.ensures.after (omega arith))
