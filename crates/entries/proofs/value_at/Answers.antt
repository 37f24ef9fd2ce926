-- `entries::value_at` meets its contract: the floor value is not negative, and small.
use mathlib.Core.Path.{ap, ◌∙◌}
use native.Mathlib.Omega.{arith}
use lib.IntN.{nat_abs}
use Rattle.values.specs.declared.TableUnits.{TableUnits}
use Rattle.values.proofs.Bounds.{floor-small}
use Rattle.design.proofs.LegalLaws.{limits}
use Rattle.entries.specs.Entries.{value_at}
use Rattle.entries.proofs.EntryBounds.{floor-input}
use Rattle.entries.proofs.value_at.Goals as goal

pub overflow_add-d : goal.overflow_add-d
overflow_add-d c = omega (arith, (limits _ c.args.legal.legal).widths)

pub floor_value-requires : goal.floor_value-requires
floor_value-requires c =
    let start = c.before in
    rw start.requires.0 (floor-input _ (limits _ start.args.legal.legal) _ start.requires.1)

pub count-requires : goal.count-requires
count-requires c = rw c.floor_value.ensures tt

pub returns : goal.returns
unfolding value_at
returns c =
    let start = c.before.before.before in
    let units = rw start.requires.0 at c.floor_value.ensures in
    let e = c.count.ensures ∙ ap (λ (u : TableUnits). nat_abs u.0) units in
    (e, rw e (floor-small _ _ _ _ (floor-input _ (limits _ start.args.legal.legal) _ start.requires.1)))
