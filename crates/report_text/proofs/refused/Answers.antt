-- `refused` meets its contract: each part stands behind those before it.
use Rattle.report_text.specs.Report.{refused_text}
use Rattle.report_text.proofs.refused.Goals as goal

pub returns : goal.returns
unfolding refused_text
returns c =
    rw (← c.from.ensures, ← c.from-2.ensures)
    (c.word-2.ensures.text _ (c.decimal.ensures.text _ (c.word.ensures.text _ c.new.ensures.text)))
