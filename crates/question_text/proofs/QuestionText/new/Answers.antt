-- `QuestionText::new` meets its contract.
use Rattle.question_text.specs.Question.{fields_from, fields, field, kept_of}
use Rattle.question_text.proofs.QuestionText.new.Goals as goal

pub returns : goal.returns
unfolding fields_from fields field kept_of
returns c = cc
