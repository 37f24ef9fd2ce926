-- `searching::slopes::slopes_by_a` meets its contract: after the turn of a, both numbers of each up to a are known.
use native.Mathlib.Omega.{arith}
use Rattle.values.proofs.WidthLaws.{widths-of}
use Rattle.searching.proofs.slopes.slopes_by_a.Goals as goal

pub row_of-row-requires : goal.row_of-row-requires
row_of-row-requires c = (widths-of _ _ _ _ c.requires).kind-known

pub overflow_add-segments : goal.overflow_add-segments
overflow_add-segments c = omega (arith, (widths-of _ _ _ _ c.requires).room.s-small)

pub invariant_of-segments : goal.invariant_of-segments
invariant_of-segments c =
    let w = widths-of _ _ _ _ c.requires in
    rw c.row_of-row.ensures (record { fit = record { lawful = w.lawful; room = w.room; a_small = omega arith } })
