-- `searching::cuts::last_table` meets its contract: after the turn of a, the best is that of all a so far.
use Rattle.std.specs.Prelude.{Option}
use mathlib.Core.Path.{◌≡◌}
use Prim.Native.Nat.{ℕ, ◌+◌, ◌-◌, ◌≤◌}
use Rattle.general.specs.Below.{joined, for_each}
use Rattle.design.specs.declared.Design.{Design}
use Rattle.design.specs.Limits.{most_offset_bits}
use Rattle.searching.specs.declared.SizedDesign.{SizedDesign}
use Rattle.searching.specs.Designs.{with_pair, continued}
use Rattle.searching.specs.Best.{best_of}
use Rattle.searching.proofs.cuts.last_table.Given as goal

-- before the turn of a: no a before it is better
pub record Inv (best : Option SizedDesign) (d : Design) (i end a : ℕ) : Type 0 where
  pub low : 1 ≤ a
  pub high : a ≤ end
  pub so_far : best_of best (joined 1 (a - 1) (λ a. for_each 1 most_offset_bits (λ b. continued 0 (with_pair d i a b) (i + 1)))) ≡ best

abbrev pub invariant-loop-a : goal.invariant-loop-a
invariant-loop-a l = Inv l.best l.d l.prefix.tables l.end l.a
