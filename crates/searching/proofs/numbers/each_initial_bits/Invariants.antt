-- `searching::numbers::each_initial_bits` meets its contract: before the turn of alpha, the best is that of all alpha before it.
use Rattle.std.specs.Prelude.{Option}
use mathlib.Core.Path.{◌≡◌}
use Prim.Native.Nat.{ℕ, ◌+◌, ◌-◌, ◌≤◌}
use Rattle.general.specs.Below.{joined}
use Rattle.design.specs.Limits.{least_initial_bits, most_initial_bits}
use Rattle.searching.specs.declared.SizedDesign.{SizedDesign}
use Rattle.searching.specs.Best.{best_of}
use Rattle.searching.proofs.BeginLaws.{by-alpha}
use Rattle.searching.proofs.numbers.each_initial_bits.Given as goal

pub record Inv (kind w q g : ℕ) (best found : Option SizedDesign) (alpha : ℕ) : Type 0 where
  pub low : least_initial_bits ≤ alpha
  pub high : alpha ≤ most_initial_bits + 1
  pub so_far : best_of best (joined least_initial_bits (alpha - least_initial_bits) (by-alpha kind w q g)) ≡ found

abbrev pub invariant-loop-alpha : goal.invariant-loop-alpha
invariant-loop-alpha l = Inv l.kind l.w l.q l.g l.initial.found l.found l.alpha
