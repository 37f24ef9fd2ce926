-- `evaluate_set::read_and_answer` is safe and ends: the set is read from the start of the input, where no line is taken.
use Rattle.set_console.proofs.FeedLaws.{reached-begin}
use Rattle.evaluate_set.proofs.read_and_answer.Goals as goal

pub read_set-requires : goal.read_set-requires
read_set-requires g c = record { holds_every_set = c.requires; begun = reached-begin _ c.new-reader.ensures.0 }
