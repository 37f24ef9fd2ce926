-- `reading::Reading::is_between` meets its contract: no line is taken, or the reading is finished or not.
use mathlib.Core.Path.{sym, ◌∙◌}
use native.Mathlib.Omega.{arith}
use borrow.Author.Tests.{eq-eqb}
use Rattle.reading.proofs.ReadLaws.{before-set, by-finish}
use Rattle.reading.proofs.Reading.is_between.Goals as goal

pub returns-then-self-eq0 : goal.returns-then-self-eq0
returns-then-self-eq0 c = eq-eqb _ _ c.if-self-eq0.true ∙ sym (before-set _ c.if-self-eq0.true)

pub returns-else-self-eq0 : goal.returns-else-self-eq0
returns-else-self-eq0 c = c.is_finished.ensures ∙ sym (by-finish _ (omega (arith, c.if-self-eq0.false)))
