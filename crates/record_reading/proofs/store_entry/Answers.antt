-- `record_reading::store_entry` meets its contract: the entry goes into the table that owns it, and the other one stands.
use mathlib.Core.Path.{refl, ap, ◌∙◌}
use Prim.Native.Nat.{◌-◌}
use borrow.Author.Tests.{lt-ltb, le-ltb, lt-leb, le-leb}
use lib.ListN.{set}
use mir.Syntax.{w32}
use mir.ValLaws.{to_z-of_z}
use Rattle.record_reading.specs.Storing.{stored_at}
use Rattle.record_reading.proofs.store_entry.Goals as goal

pub returns-then-e-initials : goal.returns-then-e-initials
unfolding stored_at
returns-then-e-initials c =
    let own = c.if-e-initials.true in rw (lt-ltb _ _ own, lt-leb _ _ own) (record { initial_after = refl; offsets_after = refl })

pub returns-else-e-initials : goal.returns-else-e-initials
unfolding stored_at
returns-else-e-initials c =
    let a = c.args in
    let own = c.if-e-initials.false in
    let entry = to_z-of_z w32 _ (record { sfits = c.from_complement.type_inv }) ∙ c.from_complement.ensures in rw (le-ltb _ _ own, le-leb _ _ own) (record { initial_after = refl; offsets_after = ap (set a.offsets.now (a.e - a.initials)) entry })
