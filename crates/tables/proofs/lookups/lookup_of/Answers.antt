-- `tables::lookups::lookup_of` meets its contract: the table's own bits, or none beyond m.
use native.Mathlib.Omega.{arith}
use Rattle.design.proofs.LegalLaws.{limits}
use Rattle.tables.proofs.LookupLaws.{few, lookup-here, lookup-none}
use Rattle.tables.proofs.lookups.lookup_of.Goals as goal

pub returns-then-d-i : goal.returns-then-d-i
returns-then-d-i c = let p = c.requires in lookup-none _ _ _ _ p.0 p.1 c.if-d-i.true

pub pair-pair-requires : goal.pair-pair-requires
pair-pair-requires c = c.if-d-i.false

pub overflow_add-result : goal.overflow_add-result
overflow_add-result c =
    let s = c.before.before.before.before in
    rw c.pair-pair.ensures (omega (arith, few _ (limits _ s.args.legal.legal) s.args.i))

pub overflow_sub-result : goal.overflow_sub-result
overflow_sub-result c =
    let s = c.before.before.before.before.before in
    rw c.pair-pair.ensures (omega (arith, few _ (limits _ s.args.legal.legal) s.args.i))

pub returns : goal.returns
returns c =
    let p = c.requires in
    lookup-here _ _ _ _ p.0 p.1 _ c.pair-pair.ensures
