-- `design::Design::limit` meets its contract.
use native.Mathlib.Omega.{arith}
use Rattle.design.specs.Budget.{limit}
use Rattle.design.proofs.Design.limit.Goals as goal

pub overflow_add-self : goal.overflow_add-self
overflow_add-self c = omega (arith, c.requires)

pub pow2-requires : goal.pow2-requires
pow2-requires c = omega (arith, c.requires)

pub returns : goal.returns
unfolding limit
returns c = c.pow2.ensures
