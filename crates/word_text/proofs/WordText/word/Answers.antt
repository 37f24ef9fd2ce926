-- `WordText::word` meets its contract: the line is begun or not.
use Rattle.word_text.specs.Decimal.{word_of}
use Rattle.word_text.proofs.WordText.word.Goals as goal

pub returns-then-self : goal.returns-then-self
unfolding word_of
returns-then-self c = rw c.if-self.true

pub returns-else-self : goal.returns-else-self
unfolding word_of
returns-else-self c = rw c.if-self.false
