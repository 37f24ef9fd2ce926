-- `hex_to_set::load_and_write` meets its contract: records hold a set that was read from them to its end.
use mathlib.Core.Path.{sym, ap, ◌∙◌}
use native.Mathlib.Omega.{arith}
use Rattle.record_reading.specs.ReadRecord.{hex_session}
use Rattle.hex_console.specs.Loaded.{is_whole}
use Rattle.hex_console.proofs.LoadLaws.{few-records, loaded-recordable}
use Rattle.hex_to_set.proofs.load_and_write.Goals as goal

pub put_loaded-requires : goal.put_loaded-requires
put_loaded-requires g c =
    let read = c.read_set in
    let e = read.ensures in
    let end = hex_session read.new.self.state read.new.initial read.new.offsets in
    loaded-recordable _ _ _ end (rw c.new-reader.ensures.0 at e.came) (rw c.new-reader.ensures.0 at (sym e.told ∙ ap is_whole c.in-Ok-true.is ∙ c.in-Ok-true.field-0-test))

pub lines-requires : goal.lines-requires
lines-requires g c = omega (arith, few-records _ _ _ _ c.requires.legal (rw c.new-reader.ensures.0 at c.read_set.ensures.came))

pub lines-requires-in-Err : goal.lines-requires-in-Err
lines-requires-in-Err g c = omega (arith, few-records _ _ _ _ c.requires.legal (rw c.new-reader.ensures.0 at c.read_set.ensures.came))
