-- `sizing::size_of` meets its contract: after n turns `bits` is the size of the initial table and the first n, and `position` is p_n.
use mathlib.Core.Path.{◌≡◌}
use Prim.Native.Nat.{ℕ, ◌+◌, ◌*◌, ◌≤◌}
use Rattle.general.specs.Below.{sum_below}
use Rattle.design.specs.declared.Design.{Design}
use Rattle.design.specs.Cut.{b_of}
use Rattle.design.specs.Cut as Cut
use Rattle.sizing.specs.Size.{initial_size, table_size}
use Rattle.sizing.proofs.SizeLaws.{initial_bound, table_bound}
use Rattle.sizing.proofs.size_of.Given as goal

pub record Inv (d : Design) (bits at i : ℕ) : Type 0 where
  pub bits_are : bits ≡ initial_size d + sum_below i (table_size d)
  pub place : at ≡ Cut.position d i
  pub within : i ≤ d.m
  pub small : bits ≤ initial_bound + i * table_bound

abbrev pub invariant-loop-i : goal.invariant-loop-i
invariant-loop-i l = Inv l.legal.design l.bits l.position l.i
