-- `searching::numbers::each_table_count` meets its contract: before the turn of m, the best is that of all m before it.
use Rattle.std.specs.Prelude.{Option}
use mathlib.Core.Path.{◌≡◌}
use Prim.Native.Nat.{ℕ, ◌+◌, ◌-◌, ◌≤◌}
use Rattle.general.specs.Below.{joined}
use Rattle.design.specs.declared.Design.{Design}
use Rattle.design.specs.Limits.{most_tables}
use Rattle.searching.specs.declared.SizedDesign.{SizedDesign}
use Rattle.searching.specs.Designs.{continued}
use Rattle.searching.specs.Best.{best_of}
use Rattle.searching.specs.Search.{with_tables}
use Rattle.searching.proofs.numbers.each_table_count.Given as goal

pub record Inv (d : Design) (best found : Option SizedDesign) (m : ℕ) : Type 0 where
  pub low : 1 ≤ m
  pub high : m ≤ most_tables + 1
  pub so_far : best_of best (joined 1 (m - 1) (λ m. continued m (with_tables d m) 0)) ≡ found

abbrev pub invariant-loop-m : goal.invariant-loop-m
invariant-loop-m l = Inv l.d l.initial.found l.found l.m
