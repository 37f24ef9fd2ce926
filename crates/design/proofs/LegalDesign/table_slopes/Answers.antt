-- `design::LegalDesign::table_slopes` meets its contract.
use native.Mathlib.Omega.{arith}
use Rattle.design.proofs.LegalLaws.{limits, slopewise}
use Rattle.design.proofs.LegalDesign.table_slopes.Goals as goal

pub returns : goal.returns
returns c = rw (c.largest.ensures, c.row_of.ensures, c.pair-pair.ensures)

pub pair-pair-requires : goal.pair-pair-requires
pair-pair-requires c = c.requires

pub row_of-requires : goal.row_of-requires
row_of-requires c = (limits _ c.args.self.legal).widths.kind-known

pub overflow_add-segments : goal.overflow_add-segments
overflow_add-segments c = omega (arith, (limits _ c.args.self.legal).widths)

pub invariant_of-segments : goal.invariant_of-segments
invariant_of-segments c =
    let e = c.args in
    record { fit = rw (c.row_of.ensures, c.pair-pair.ensures) (slopewise _ (limits _ e.self.legal) _ c.requires) }
