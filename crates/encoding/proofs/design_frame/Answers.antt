-- `encoding::design_frame` meets its contract: each turn puts a pair behind the others.
use native.Mathlib.Omega.{arith}
use Rattle.design.proofs.LegalLaws.{limits}
use Rattle.encoding.specs.DesignBytes.{design_bytes}
use Rattle.encoding.proofs.DesignLaws.{paired-more, paired-all}
use Rattle.encoding.proofs.design_frame.Goals as goal

pub loop-i-init : goal.loop-i-init
unfolding design_bytes
loop-i-init c =
    let head = c.design_head-frame.ensures in
    record { legal = c.args.legal.legal; within = omega arith; counted = head.count_value; so_far = rw head.result_value }

pub pair-pair-requires : goal.pair-pair-requires
pair-pair-requires c = omega arith

pub with-requires : goal.with-requires
with-requires c =
    let few = (limits _ c.loop-i.invariant.legal).m-high in
    record { narrow = omega arith; room = omega (arith, few) }

pub with-frame-requires : goal.with-frame-requires
with-frame-requires c =
    let few = (limits _ c.loop-i.invariant.legal).m-high in
    record { narrow = omega arith; room = omega (arith, few, c.with.ensures.count_value) }

pub loop-i-preserved : goal.loop-i-preserved
loop-i-preserved c =
    paired-more c.loop-i.invariant _ _ _ c.pair-pair.ensures (omega arith)
    (c.with.ensures.result_value, c.with.ensures.count_value)
    (c.with-frame.ensures.result_value, c.with-frame.ensures.count_value)

pub returns : goal.returns
returns c = let p = paired-all c.loop-i.invariant (omega arith) in record { result_value = p.0; count_value = p.1 }
