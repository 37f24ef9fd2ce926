-- `sizing::table_size` meets its contract: as many offsets as the table stores, each of its bits.
use native.Mathlib.Omega.{arith}
use Rattle.design.proofs.LegalLaws.{limits}
use Rattle.sizing.specs.Size.{table_size}
use Rattle.sizing.proofs.SizeLaws.{table-size-small}
use Rattle.sizing.proofs.table_size.Goals as goal

pub returns : goal.returns
unfolding table_size
returns c = rw (c.offset_count.ensures, c.offset_bits.ensures)

pub overflow_mul-result : goal.overflow_mul-result
unfolding table_size
overflow_mul-result c =
    let e = c.requires in
    rw (c.offset_count.ensures, c.offset_bits.ensures) (omega (arith, table-size-small _ _ (limits _ c.args.legal.legal) e.0))
