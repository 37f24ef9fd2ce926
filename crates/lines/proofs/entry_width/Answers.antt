-- `lines::entry_width` meets its contract: it is `entry_width`, case by case.
use mathlib.Core.Path.{refl}
use mathlib.Core.Logic.{inl, inr}
use Rattle.lines.specs.Lines.{entry_width}
use Rattle.lines.proofs.entry_width.Goals as goal

pub returns-in-Initial : goal.returns-in-Initial
unfolding entry_width
returns-in-Initial c = elim c.in-Initial.is [ inl e ↦ rw e.1 refl | inr e ↦ rw e.3 refl ]

pub returns-in-Design : goal.returns-in-Design
unfolding entry_width
returns-in-Design c = elim c.in-Design.is [ inl e ↦ rw e refl | inr e ↦ rw e.1 refl ]
