-- `tables::lookups::lookup_after` meets its contract: positions and starts are sums, of which this table's are one more part.
use native.Mathlib.Omega.{arith}
use Rattle.design.proofs.LegalLaws.{limits}
use Rattle.tables.proofs.LookupLaws.{lookup-small, shift-within, count-again-small, position-next, start-next}
use Rattle.tables.proofs.lookups.lookup_after.Goals as goal

pub overflow_sub-count : goal.overflow_sub-count
overflow_sub-count c = let p = c.requires in shift-within _ (limits _ c.args.legal.legal) _ _ p.1

pub overflow_shl-count : goal.overflow_shl-count
overflow_shl-count c = omega (arith, (limits _ c.args.legal.legal).widths.room.w-small)

pub overflow_add-previous : goal.overflow_add-previous
overflow_add-previous c =
    let p = c.requires in
    omega (arith, lookup-small _ (limits _ c.args.legal.legal) _ _ p.1 (omega (arith, p.0)))

pub overflow_add-previous-2 : goal.overflow_add-previous-2
overflow_add-previous-2 c =
    let p = c.requires in
    let l = limits _ c.args.legal.legal in
    omega (arith, lookup-small _ l _ _ p.1 (omega (arith, p.0)), count-again-small _ l _ _ p.1)

pub lookup_of-requires : goal.lookup_of-requires
lookup_of-requires c =
    let p = c.requires in
    let l = limits _ c.args.legal.legal in
    (position-next _ l _ _ p.1, start-next _ l _ _ p.1)
