-- `exports::record_calls::dorykleth_read_record` meets its contract: the state that the reading comes to is stored as numbers.
use mathlib.Core.Path.{ap}
use Rattle.record_reading.specs.declared.HexRead.{HexRead}
use Rattle.record_reading.specs.ReadRecord.{hex_answer}
use Rattle.exports.specs.Numbers.{held_in}
use Rattle.exports.proofs.record_calls.dorykleth_read_record.Goals as goal

pub returns-clause-state_taken : goal.returns-clause-state_taken
unfolding hex_answer
returns-clause-state_taken c = rw (← c.design_of.ensures) (ap (λ (read : HexRead). read.state.taken) c.read_record-read.ensures.answer)

pub returns-clause-state_held : goal.returns-clause-state_held
unfolding hex_answer
returns-clause-state_held c = rw (← c.design_of.ensures) (ap (λ (read : HexRead). held_in read.state) c.read_record-read.ensures.answer)
