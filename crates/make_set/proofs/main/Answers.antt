-- `make_set::main` meets its contract: its tables hold every legal set.
use Rattle.set_console.proofs.LineLaws.{every_set}
use Rattle.make_set.proofs.main.Goals as goal

pub make-requires : goal.make-requires
make-requires c = every_set
