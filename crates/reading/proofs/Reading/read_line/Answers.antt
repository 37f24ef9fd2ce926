-- `reading::Reading::read_line` meets its contract: the next state, or the refusal beside the state that came.
use mathlib.Core.Path.{sym, ap, ◌∙◌}
use Rattle.refusal.specs.Numbers.{verdict_number}
use Rattle.reading.specs.declared.Read.{Read}
use Rattle.reading.specs.ReadLine.{read_answer}
use Rattle.reading.proofs.ReadSteps.{read-told}
use Rattle.reading.proofs.Reading.read_line.Goals as goal

pub returns-in-Ok : goal.returns-in-Ok
unfolding read_answer
returns-in-Ok c =
    let answer = read-told _ _ (sym c.in-Ok.is ∙ c.next.ensures.value) in
    record {
      answer = answer;
      number = ap (λ (r : Read). verdict_number r.verdict) answer;
      initial_table = c.next.ensures.initial_table;
      offset_tables = c.next.ensures.offset_tables;
    }

pub returns-in-Err : goal.returns-in-Err
unfolding read_answer
returns-in-Err c =
    let answer = read-told _ _ (sym c.in-Err.is ∙ c.next.ensures.value) in
    record {
      answer = answer;
      number = ap (λ (r : Read). verdict_number r.verdict) answer;
      initial_table = c.next.ensures.initial_table;
      offset_tables = c.next.ensures.offset_tables;
    }
