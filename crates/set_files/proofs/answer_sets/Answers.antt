-- `set_files::answer_sets` meets its contract: its tables hold every legal set.
use Rattle.set_console.proofs.LineLaws.{every_set}
use Rattle.set_files.proofs.answer_sets.Goals as goal

pub answer_all-requires-clause-holds_every_set : goal.answer_all-requires-clause-holds_every_set
answer_all-requires-clause-holds_every_set g c = every_set
