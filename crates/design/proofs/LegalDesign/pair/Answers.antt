-- `design::LegalDesign::pair` meets its contract: a legal design has no more tables than pairs.
use native.Mathlib.Omega.{arith}
use Rattle.design.proofs.LegalLaws.{limits}
use Rattle.design.proofs.LegalDesign.pair.Goals as goal

pub pair-requires : goal.pair-requires
pair-requires c = (c.requires, omega (arith, (limits _ c.args.self.legal).m-high))
