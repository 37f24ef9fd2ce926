-- `searching::numbers::best_design` meets its contract: before the turn of g, the best is that of all g before it.
use Rattle.std.specs.Prelude.{Option, None}
use mathlib.Core.Path.{◌≡◌}
use mathlib.Core.List.{List}
use Prim.Native.Nat.{ℕ, ◌+◌, ◌-◌, ◌≤◌}
use Rattle.general.specs.Below.{joined, for_each}
use Rattle.values.specs.Widths.{limits_of}
use Rattle.design.specs.declared.Design.{Design}
use Rattle.design.specs.Limits.{least_initial_bits, most_initial_bits}
use Rattle.searching.specs.declared.SizedDesign.{SizedDesign}
use Rattle.searching.specs.Best.{best_of}
use Rattle.searching.proofs.BeginLaws.{by-alpha}
use Rattle.searching.proofs.numbers.best_design.Given as goal

-- the designs by g
abbrev pub by-g : ℕ → ℕ → ℕ → ℕ → List Design
by-g kind w q g = for_each least_initial_bits most_initial_bits (by-alpha kind w q g)

pub record Inv (kind w q : ℕ) (found : Option SizedDesign) (g : ℕ) : Type 0 where
  pub low : (limits_of kind).g.0 ≤ g
  pub high : g ≤ (limits_of kind).g.1 + 1
  pub so_far : best_of None (joined (limits_of kind).g.0 (g - (limits_of kind).g.0) (by-g kind w q)) ≡ found

abbrev pub invariant-loop-g : goal.invariant-loop-g
invariant-loop-g l = Inv l.kind l.w l.q l.found l.g
