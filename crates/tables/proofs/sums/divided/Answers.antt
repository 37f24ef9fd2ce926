-- `tables::sums::divided` meets its contract: a sum in range is small.
use native.Mathlib.Omega.{arith}
use lib.Pow.{shr_le}
use Rattle.tables.proofs.sums.divided.Goals as goal

pub overflow_cast-word-2 : goal.overflow_cast-word-2
overflow_cast-word-2 c = omega (arith, c.count.ensures, c.requires, shr_le c.count.result c.args.g)
