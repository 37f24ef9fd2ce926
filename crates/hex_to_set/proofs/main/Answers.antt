-- `hex_to_set::main` meets its contract: its tables hold every legal set.
use Rattle.set_console.proofs.LineLaws.{every_set}
use Rattle.hex_to_set.proofs.main.Goals as goal

pub read_and_write-requires : goal.read_and_write-requires
read_and_write-requires c = every_set
