-- `design::LegalDesign::offset_total` meets its contract: after n turns `entries` counts the offsets of the first n tables.
use mathlib.Core.Path.{◌≡◌}
use Prim.Native.Nat.{ℕ, ◌*◌, ◌-◌, ◌≤◌}
use Rattle.design.specs.declared.Design.{Design}
use Rattle.design.specs.Limits.{most_in_table}
use Rattle.design.specs.Stored.{table_start}
use Rattle.design.proofs.LegalDesign.offset_total.Given as goal

pub record Inv (d : Design) (entries i : ℕ) : Type 0 where
  pub count : entries ≡ table_start d i
  pub within : i ≤ d.m
  pub small : entries ≤ i * most_in_table

abbrev pub invariant-loop-i : goal.invariant-loop-i
invariant-loop-i l =
    Inv l.self.design l.entries l.i

abbrev pub decreases-loop-i : goal.decreases-loop-i
decreases-loop-i l = l.m - l.i
