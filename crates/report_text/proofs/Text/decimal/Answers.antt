-- `Text::decimal` meets its contract: the digits that `itoa` gives are those of the definition.
use mathlib.Core.Path.{◌≡◌, ◌∙◌}
use borrow.Author.Rules.{rules}
use Rattle.std.proofs.lemmas.Fmt.{length-decimal-le}
use Rattle.report_text.specs.Words.{decimal}
use Rattle.report_text.proofs.DecimalLaws.{decimal-is}
use Rattle.report_text.proofs.Text.decimal.Goals as goal

pub word-requires : goal.word-requires
word-requires c = search (rules, length-decimal-le 20)

pub returns-clause-count : goal.returns-clause-count
returns-clause-count c = search (rules, length-decimal-le 20)

pub returns-clause-text : goal.returns-clause-text
returns-clause-text c t e =
    let digits : c.as_bytes.result.now ≡ decimal c.args.n =
    c.as_bytes.ensures.value ∙ c.format.ensures.text ∙ decimal-is c.args.n (search rules) in
    rw (← digits) (c.word.ensures.text t e)
