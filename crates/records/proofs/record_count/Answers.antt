-- `records::record_count` meets its contract.
use mathlib.Core.Path.{refl}
use Rattle.records.specs.IntelHex.{data_count, record_count}
use Rattle.records.proofs.record_count.Goals as goal

pub returns : goal.returns
unfolding record_count data_count
returns c = refl
