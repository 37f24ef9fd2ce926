-- `evaluating::word` meets its contract: a word that passed has a sum in range.
use Rattle.tables.specs.Sum.{word_at}
use Rattle.evaluating.proofs.WordLaws.{passed-word}
use Rattle.evaluating.proofs.word.Goals as goal

pub sum_of-requires : goal.sum_of-requires
sum_of-requires c = (passed-word _ _ _ _ c.requires).0

pub word_of-requires : goal.word_of-requires
word_of-requires c = rw c.sum_of.ensures (passed-word _ _ _ _ c.requires).1

pub returns : goal.returns
unfolding word_at
returns c = rw c.sum_of.ensures at c.word_of.ensures
