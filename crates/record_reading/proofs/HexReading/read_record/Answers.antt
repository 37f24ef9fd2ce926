-- `record_reading::HexReading::read_record` meets its contract: the next state, or the refusal beside the state that came.
use mathlib.Core.Path.{sym, ap, ◌∙◌}
use Rattle.refusal.specs.Numbers.{verdict_number}
use Rattle.record_reading.specs.declared.HexRead.{HexRead}
use Rattle.record_reading.specs.ReadRecord.{hex_answer}
use Rattle.record_reading.proofs.ReadSteps.{read-told}
use Rattle.record_reading.proofs.HexReading.read_record.Goals as goal

pub returns-in-Ok : goal.returns-in-Ok
unfolding hex_answer
returns-in-Ok c =
    let answer = read-told _ _ _ (sym c.in-Ok.is ∙ c.next.ensures.value) in
    record {
      answer = answer;
      number = ap (λ (r : HexRead). verdict_number r.verdict) answer;
      initial_table = c.next.ensures.initial_table;
      offset_tables = c.next.ensures.offset_tables;
    }

pub returns-in-Err : goal.returns-in-Err
unfolding hex_answer
returns-in-Err c =
    let answer = read-told _ _ _ (sym c.in-Err.is ∙ c.next.ensures.value) in
    record {
      answer = answer;
      number = ap (λ (r : HexRead). verdict_number r.verdict) answer;
      initial_table = c.next.ensures.initial_table;
      offset_tables = c.next.ensures.offset_tables;
    }
