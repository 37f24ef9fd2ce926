-- `design::LegalDesign::budget` meets its contract: after n turns `sum` is the budget of the first n tables, and `position` is p_n.
use mathlib.Core.Path.{◌≡◌}
use Prim.Native.Nat.{ℕ, ◌*◌, ◌-◌, ◌≤◌}
use Rattle.general.specs.Below.{sum_below}
use Rattle.design.specs.declared.Design.{Design}
use Rattle.design.specs.Cut.{b_of}
use Rattle.design.specs.Cut as Cut
use Rattle.design.specs.Budget.{table_budget}
use Rattle.design.proofs.BudgetLaws.{share_bound}
use Rattle.design.proofs.LegalDesign.budget.Given as goal

pub record Inv (d : Design) (sum at i : ℕ) : Type 0 where
  pub sum_is : sum ≡ sum_below i (table_budget d)
  pub place : at ≡ Cut.position d i
  pub within : i ≤ d.m
  pub small : sum ≤ i * share_bound

abbrev pub invariant-loop-i : goal.invariant-loop-i
invariant-loop-i l =
    Inv l.self.design l.sum l.position l.i

abbrev pub decreases-loop-i : goal.decreases-loop-i
decreases-loop-i l = l.m - l.i
