-- `reading::store` meets its contract: the entry goes where its slot says, and nothing else is written.
use mathlib.Core.Path.{refl, ap, ◌∙◌}
use mathlib.Core.Logic.{inl, inr}
use lib.ListN.{set}
use mir.Syntax.{w32}
use mir.ValLaws.{to_z-of_z}
use Rattle.reading.specs.ReadLine.{initial_stored, offsets_stored}
use Rattle.reading.proofs.store.Goals as goal

pub returns-in-Design : goal.returns-in-Design
unfolding initial_stored offsets_stored
returns-in-Design c =
    elim c.in-Design.is [
      | inl e ↦ rw e (record { initial_after = refl; offsets_after = refl })
      | inr (before, e) ↦ rw e (record { initial_after = refl; offsets_after = refl })
    ]

pub returns-in-Initial : goal.returns-in-Initial
unfolding initial_stored offsets_stored
returns-in-Initial c = rw c.in-Initial.is (record { initial_after = refl; offsets_after = refl })

pub returns-in-Offset : goal.returns-in-Offset
unfolding initial_stored offsets_stored
returns-in-Offset c =
    let entry = to_z-of_z w32 _ (record { sfits = c.from_complement.type_inv }) ∙ c.from_complement.ensures in
    rw c.in-Offset.is (record { initial_after = refl; offsets_after = ap (set c.args.offsets.now c.in-Offset.place) entry })
