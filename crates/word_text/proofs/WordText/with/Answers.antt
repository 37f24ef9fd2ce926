-- `WordText::with` meets its contract.
use Rattle.word_text.specs.Decimal.{after_character}
use Rattle.word_text.proofs.WordText.with.Goals as goal

pub returns : goal.returns
unfolding after_character
returns c = rw c.longer.ensures
