-- `encoding::numbers::fits_signed` meets its contract: the second test counts only where the first holds.
use mir.Syntax.{w32}
use mir.ValLaws.{to_z-of_z}
use Rattle.encoding.proofs.SignedBytes.{low-enough, too-low}
use Rattle.encoding.proofs.numbers.fits_signed.Goals as goal

pub returns-then-v-geminus8388608 : goal.returns-then-v-geminus8388608
returns-then-v-geminus8388608 c =
    let read = to_z-of_z w32 c.args.v c.ranges.v in
    rw read (low-enough c.args.v (rw read at c.if-v-geminus8388608.true))

pub returns-else-v-geminus8388608 : goal.returns-else-v-geminus8388608
returns-else-v-geminus8388608 c =
    let read = to_z-of_z w32 c.args.v c.ranges.v in
    rw read (too-low c.args.v (rw read at c.if-v-geminus8388608.false))
