-- `design::LegalDesign::sum_limit` meets its contract: P is small.
use native.Mathlib.Omega.{arith}
use Rattle.design.proofs.LegalLaws.{limits}
use Rattle.design.proofs.LegalDesign.sum_limit.Goals as goal

pub overflow_add-self : goal.overflow_add-self
overflow_add-self c = omega (arith, (limits _ c.args.self.legal).widths)

pub overflow_add-self-2 : goal.overflow_add-self-2
overflow_add-self-2 c = omega (arith, (limits _ c.args.self.legal).widths)

pub pow2-requires : goal.pow2-requires
pow2-requires c = omega (arith, (limits _ c.args.self.legal).widths)

pub returns : goal.returns
returns c = c.pow2.ensures
