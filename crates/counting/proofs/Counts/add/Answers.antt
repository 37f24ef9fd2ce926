-- `counting::Counts::add` meets its contract: of the five counts the one of the class grows by one.
use native.Mathlib.Nat.{add-zero}
use Rattle.counting.specs.Inputs.{with_class}
use Rattle.counting.proofs.Counts.add.Goals as goal

pub returns-in-Outside : goal.returns-in-Outside
unfolding with_class
returns-in-Outside c = rw c.in-Outside.is (simp add-zero)

pub returns-in-Nearest : goal.returns-in-Nearest
unfolding with_class
returns-in-Nearest c = rw c.in-Nearest.is (simp add-zero)

pub returns-in-Faithful : goal.returns-in-Faithful
unfolding with_class
returns-in-Faithful c = rw c.in-Faithful.is (simp add-zero)

pub returns-in-Low : goal.returns-in-Low
unfolding with_class
returns-in-Low c = rw c.in-Low.is (simp add-zero)

pub returns-in-High : goal.returns-in-High
unfolding with_class
returns-in-High c = rw c.in-High.is (simp add-zero)
