-- `design::Design::pair` meets its contract: below m the pairs that are read are the design's.
use mathlib.Core.Path.{◌≡◌, sym}
use Prim.Native.Nat.{ℕ, ◌<◌}
use native.Mathlib.Omega.{arith}
use lib.ListN.{get_or}
use lib.Seq.{get_or-take}
use Rattle.design.specs.declared.Design.{Design}
use Rattle.design.specs.Cut.{tables, pair_at, no_pair}
use Rattle.design.proofs.Design.pair.Goals as goal

-- the pair at the place that the branch reads
read : (d : Design) (i place : ℕ) → i ≡ place → i < d.m → get_or d.pairs place no_pair ≡ pair_at d i
unfolding pair_at tables
read d i place e h = rw (← e) (sym (get_or-take _ _ _ _ h))

pub returns-in-0 : goal.returns-in-0
returns-in-0 c = read _ _ 0 c.in-0.is c.requires.0

pub returns-in-1 : goal.returns-in-1
returns-in-1 c = read _ _ 1 c.in-1.is c.requires.0

pub returns-in-2 : goal.returns-in-2
returns-in-2 c = read _ _ 2 c.in-2.is c.requires.0

pub returns-in_default : goal.returns-in_default
returns-in_default c = read _ _ 3 (omega arith) c.requires.0
