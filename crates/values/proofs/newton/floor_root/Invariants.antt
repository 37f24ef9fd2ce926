-- `values::newton::floor_root` meets its contract, for every degree. The invariant: the root, rounded down, is not above what the steps
-- have come to.
use Prim.Native.Nat.{ℕ, ◌+◌, ◌^◌, ◌<◌}
use Rattle.values.proofs.newton.floor_root.Given as goal

pub record Inv (k limit root : ℕ) : Type 0 where
  pub high : limit < (root + 1) ^ k
  pub small : root < 2 ^ 32

abbrev pub invariant-loop-root : goal.invariant-loop-root
invariant-loop-root l = Inv l.k l.limit l.root

abbrev pub decreases-loop-root : goal.decreases-loop-root
decreases-loop-root l = l.root
