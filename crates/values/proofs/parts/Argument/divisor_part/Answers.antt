-- `values::parts::Argument::divisor_part` meets its contract: each branch is the side of `cond` that the sign names.
use native.Mathlib.Omega.{arith}
use Rattle.values.specs.Parts.{divisor_part}
use Rattle.values.proofs.Bounds.{argument-small}
use Rattle.values.proofs.parts.Argument.divisor_part.Goals as goal

pub overflow_mul-result : goal.overflow_mul-result
overflow_mul-result c = omega (arith, argument-small _ _ _ _ c.requires)

pub returns-then-self : goal.returns-then-self
unfolding divisor_part
returns-then-self c = simp (c.pow2.ensures, c.saturating_sub.ensures, c.if-self.true)

pub returns-else-self : goal.returns-else-self
unfolding divisor_part
returns-else-self c = simp c.if-self.false
