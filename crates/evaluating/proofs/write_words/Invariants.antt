-- `evaluating::write_words` meets its contract: after n turns the output is `written .. n`.
use mathlib.Core.Path.{◌≡◌}
use Rattle.tables.specs.Sum.{word_at}
use Rattle.evaluating.proofs.BatchLaws.{written}
use Rattle.evaluating.proofs.write_words.Given as goal

abbrev pub invariant-loop-n : goal.invariant-loop-n
invariant-loop-n l =
    l.output ≡ written (word_at l.set.tables.design l.set.initial.now l.set.tables.offsets.now) l.words l.initial.output l.n
