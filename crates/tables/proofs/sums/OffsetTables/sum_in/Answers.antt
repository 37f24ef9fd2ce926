-- `tables::sums::OffsetTables::sum_in` meets its contract: the run's words lie in one interval, and table 0's offset makes Y of what is above it.
use mathlib.Core.Path.{◌≡◌, ap, ◌∙◌}
use mathlib.Core.List.{List}
use Prim.Native.Nat.{ℕ, ◌+◌, ◌<◌}
use native.Mathlib.Omega.{arith}
use lib.IntN.{ℤ, ◌+ℤ◌}
use Rattle.values.proofs.Bounds.{words-few}
use Rattle.design.specs.declared.Design.{Design}
use Rattle.design.proofs.LegalLaws.{Limits, limits}
use Rattle.tables.specs.declared.runs.Run.{Run}
use Rattle.tables.specs.Inputs.{SameInterval, RunOf}
use Rattle.tables.specs.Sum.{offset_for, sum_from}
use Rattle.tables.proofs.LookupLaws.{looked}
use Rattle.tables.proofs.SumLaws.{units}
use Rattle.tables.proofs.RunLaws.{run-interval, run-sum}
use Rattle.tables.proofs.sums.OffsetTables.sum_in.Goals as goal
use Rattle.tables.proofs.sums.OffsetTables.sum_in.Goals.{Start}

module _ {d : Design} (l : Limits d) {offsets : List ℤ} {run : Run} (r : RunOf d offsets run) (b : ℕ) (b_lt : b < run.size) where
  words : SameInterval d run.near (run.start + b)
  words = run-interval d l run.start b r.starts (rw r.size_is at b_lt) r.interval

  summed : run.above.0 +ℤ offset_for d offsets (run.start + b) 0 ≡ sum_from d run.entry offsets (run.start + b)
  summed = rw r.above-is (run-sum d l run.start b r.starts (rw r.size_is at b_lt) run.entry offsets)

-- this call's word
word : (c : Start) → let a = c.args in SameInterval a.self.design a.run.near (a.run.start + a.b)
word c = let p = c.requires in words (limits _ c.args.self.legal) p.0 _ p.1

pub overflow_add-x : goal.overflow_add-x
overflow_add-x c = omega (arith, (word c.before).word, words-few (limits _ c.args.self.legal).widths.room)

pub add_table-requires : goal.add_table-requires
add_table-requires c =
    let p = c.requires in
    record { lookup_value = ((looked c.args.self.lookups_value).first-is, word c.before.before.before); i_lt_m = ((limits _ c.args.self.legal).m-low, p.0.above-small) }

pub returns : goal.returns
returns c =
    let p = c.requires in
    c.add_table.ensures.0 ∙ ap units (summed (limits _ c.args.self.legal) p.0 _ p.1)
