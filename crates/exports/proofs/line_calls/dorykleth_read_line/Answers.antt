-- `exports::line_calls::dorykleth_read_line` meets its contract: the state that the reading comes to is stored as numbers.
use mathlib.Core.Path.{ap, ◌∙◌}
use Rattle.reading.specs.declared.Read.{Read}
use Rattle.reading.specs.ReadLine.{read_answer}
use Rattle.exports.specs.Numbers.{numbers_of}
use Rattle.exports.proofs.line_calls.dorykleth_read_line.Goals as goal

pub returns-clause-state_design : goal.returns-clause-state_design
unfolding read_answer
returns-clause-state_design c =
    rw (← c.design_of.ensures) (c.numbers_of.ensures ∙ ap (λ (read : Read). numbers_of read.state.design) c.read_line-read.ensures.answer)

pub returns-clause-state_taken : goal.returns-clause-state_taken
unfolding read_answer
returns-clause-state_taken c = rw (← c.design_of.ensures) (ap (λ (read : Read). read.state.taken) c.read_line-read.ensures.answer)
