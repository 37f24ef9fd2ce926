-- `evaluate_set::main` meets its contract: its tables hold every legal set.
use Rattle.set_console.proofs.LineLaws.{every_set}
use Rattle.evaluate_set.proofs.main.Goals as goal

pub read_and_answer-requires : goal.read_and_answer-requires
read_and_answer-requires c = every_set
