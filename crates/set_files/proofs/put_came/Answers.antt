-- `set_files::put_came` meets its contract: where an answer that is put keeps the blocks, all keeps them.
use borrow.Author.Rules.{rules}
use Rattle.console.specs.Reading.{KeepsBlocks}
use Rattle.set_files.proofs.KeptLaws.{kept-more}
use Rattle.set_files.proofs.put_came.Goals as goal
use Rattle.set_files.proofs.put_came.Goals.{then-any, else-any}

pub returns-in-Ok-true : goal.returns-in-Ok-true
returns-in-Ok-true g c =
    record {
      blocks = λ keeps.
          let before : KeepsBlocks c.args.console.now c.if-any.console =
          elim c.if-any.branch [ then-any w ↦ search rules | else-any w ↦ search rules ] in
          kept-more c.args.console.now c.if-any.console c.put_answer.new.arg2 before (keeps _ _ _ _ _ c.put_answer.ensures);
    }
