-- `values::parts::Argument::value_part` meets its contract: each branch is the side of `cond` that the sign names, and there is room for it.
use mathlib.Core.Path.{◌≡◌}
use native.Mathlib.Omega.{arith}
use Prim.Native.Nat.{◌*◌}
use Rattle.values.specs.Parts.{value_part}
use Rattle.values.proofs.Bounds.{argument-small, value-part-fits}
use Rattle.values.proofs.parts.Argument.value_part.Goals as goal
use Rattle.values.proofs.parts.Argument.value_part.Goals.{After-pow2}

-- the product where the function rises
made : (c : After-pow2) → let a = c.args in
    a.self.row.c * a.self.x * c.pow2.result ≡ value_part a.self.row a.self.w a.s a.self.x
unfolding value_part
made c = simp (c.pow2.ensures, c.saturating_sub.ensures, c.if-self.true)

pub overflow_mul-result : goal.overflow_mul-result
overflow_mul-result c = omega (arith, argument-small _ _ _ _ c.requires)

pub overflow_mul-result-then-self : goal.overflow_mul-result-then-self
overflow_mul-result-then-self c = rw (made c) record { fits = value-part-fits _ _ _ _ c.requires }

pub pow2-requires-else-self : goal.pow2-requires-else-self
pow2-requires-else-self c = let p = c.requires in omega (arith, p.room.falls c.if-self.false, p.lawful.k-pos)

pub returns-then-self : goal.returns-then-self
returns-then-self c = made c

pub returns-else-self : goal.returns-else-self
unfolding value_part
returns-else-self c = simp (c.pow2-else-self.ensures, c.if-self.false)
