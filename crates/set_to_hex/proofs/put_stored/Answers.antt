-- `set_to_hex::put_stored` is safe and ends: records can hold what lines can.
use Rattle.hex_console.proofs.RecordLaws.{recordable}
use Rattle.set_to_hex.proofs.put_stored.Goals as goal

pub put_records-requires : goal.put_records-requires
put_records-requires g c = recordable _ c.requires
