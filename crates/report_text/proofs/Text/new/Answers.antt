-- `Text::new` meets its contract: with no bytes, `text_of` computes to 96 zeros and the count 0.
use mathlib.Core.Path.{refl}
use Rattle.report_text.specs.Words.{text_of}
use Rattle.report_text.proofs.Text.new.Goals as goal

pub returns-clause-text : goal.returns-clause-text
unfolding text_of
returns-clause-text c = refl
