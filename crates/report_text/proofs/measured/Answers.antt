-- `measured` meets its contract: each part stands behind those before it.
use Rattle.report_text.specs.Report.{line_text}
use Rattle.report_text.proofs.measured.Goals as goal

pub returns-then-admitted : goal.returns-then-admitted
unfolding line_text
returns-then-admitted c =
    rw c.if-admitted.true
    (c.word-then-admitted.ensures.text _
    (c.decimal-text.ensures.text _
    (c.word-3.ensures.text _
    (c.decimal-2.ensures.text _
    (c.word-2.ensures.text _
    (c.decimal.ensures.text _
    (c.word.ensures.text _ c.new.ensures.text)))))))

pub returns-else-admitted : goal.returns-else-admitted
unfolding line_text
returns-else-admitted c =
    rw c.if-admitted.false
    (c.word-else-admitted.ensures.text _
    (c.decimal-text.ensures.text _
    (c.word-3.ensures.text _
    (c.decimal-2.ensures.text _
    (c.word-2.ensures.text _
    (c.decimal.ensures.text _
    (c.word.ensures.text _ c.new.ensures.text)))))))
