-- `filling::fill_initial` meets its contract: after n turns the first n initial entries are written over the table from its start.
use mathlib.Core.Path.{◌≡◌}
use mathlib.Core.List.{List}
use Prim.Native.Nat.{ℕ}
use lib.ListN.{length}
use Rattle.general.specs.Below.{list_below}
use Rattle.general.specs.Lists.{over}
use Rattle.design.specs.declared.Design.{Design}
use Rattle.entries.specs.Entries.{initial_at}
use Rattle.filling.proofs.fill_initial.Given as goal

pub record Inv (d : Design) (before table : List ℕ) (n : ℕ) : Type 0 where
  pub so_far : table ≡ over before 0 (list_below n (initial_at d))
  pub kept : length table ≡ length before

abbrev pub invariant-loop-word : goal.invariant-loop-word
invariant-loop-word l = Inv l.legal.design l.initial.entry-items l.entry-items l.word
