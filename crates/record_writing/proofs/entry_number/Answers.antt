-- `record_writing::entry_number` meets its contract: it is `entry_at` where the entry fits, by whether it is an initial entry.
use borrow.Author.Rules.{rules}
use borrow.Author.Tests.{lt-ltb, le-ltb}
use lib.IntN.{pos}
use lib.ListN.{get_or}
use Prim.Native.Nat.{◌-◌}
use mir.Syntax.{w32}
use mir.ValLaws.{to_z-of_z}
use Rattle.records.specs.SetBytes.{entry_at, entry_fits}
use Rattle.record_writing.specs.Inputs.{entry_written}
use Rattle.record_writing.proofs.entry_number.Goals as goal

pub returns-then-fits : goal.returns-then-fits
unfolding entry_written entry_at entry_fits
returns-then-fits c = rw (lt-ltb _ _ c.if-e-initials.true, ← c.fits.ensures, c.if-fits.true)

pub returns-else-fits : goal.returns-else-fits
unfolding entry_written entry_at entry_fits
returns-else-fits c = rw (lt-ltb _ _ c.if-e-initials.true, ← c.fits.ensures, c.if-fits.false)

pub returns-then-fits_signed : goal.returns-then-fits_signed
unfolding entry_written entry_at entry_fits
returns-then-fits_signed c =
    let z = to_z-of_z w32 (get_or c.args.offsets.now (c.args.e - c.args.initials) (pos 0)) (search rules) in
    rw (le-ltb _ _ c.if-e-initials.false, ← z, ← c.fits_signed.ensures, c.if-fits_signed.true, c.complement.ensures)

pub returns-else-fits_signed : goal.returns-else-fits_signed
unfolding entry_written entry_at entry_fits
returns-else-fits_signed c =
    let z = to_z-of_z w32 (get_or c.args.offsets.now (c.args.e - c.args.initials) (pos 0)) (search rules) in
    rw (le-ltb _ _ c.if-e-initials.false, ← z, ← c.fits_signed.ensures, c.if-fits_signed.false)
