-- `tables::sums::OffsetTables::sum_from` meets its contract: table 0 and those from 1 on make Y.
use mathlib.Core.Path.{◌≡◌, ap, ◌∙◌}
use mathlib.Core.List.{List}
use Prim.Native.Nat.{ℕ, ◌≤◌}
use native.Mathlib.Omega.{arith}
use lib.IntN.{ℤ, pos, ◌+ℤ◌}
use mir.Syntax.{w64}
use mir.Val.{to_z}
use mir.ValLaws.{to_z_pos}
use Rattle.values.specs.declared.TableUnits.{TableUnits}
use Rattle.design.specs.declared.Design.{Design}
use Rattle.design.proofs.LegalLaws.{limits}
use Rattle.tables.specs.Inputs.{sum_above}
use Rattle.tables.specs.Sum.{offset_for, sum_from}
use Rattle.tables.proofs.LookupLaws.{looked}
use Rattle.tables.proofs.SumLaws.{units, first-first}
use Rattle.tables.proofs.sums.OffsetTables.sum_from.Goals as goal
use Rattle.tables.proofs.sums.OffsetTables.sum_from.Goals.{Start}

with-above : (d : Design) (entry : ℕ) (offsets : List ℤ) (x : ℕ) (none : ℤ) (first sum : TableUnits) → 1 ≤ d.m → none ≡ pos entry
    → first ≡ units (none +ℤ offset_for d offsets x 0) → sum ≡ units (sum_above d first.0 offsets x)
    → sum ≡ units (sum_from d entry offsets x)
with-above d entry offsets x none first sum some none_is first-is sum_is_lem =
    sum_is_lem ∙ ap units (rw (first-is, none_is) (first-first d entry offsets x some))

-- the entry is the same number in 64 bits
held : (c : Start) → to_z w64 c.args.entry ≡ pos c.args.entry
held c = to_z_pos w64 c.args.entry (omega arith)

pub add_table-first-requires : goal.add_table-first-requires
add_table-first-requires c =
    let p = c.requires in
    record { lookup_value = ((looked c.args.self.lookups_value).first-is, p); i_lt_m = ((limits _ c.args.self.legal).m-low, rw (held c.before) (omega arith)) }

pub returns : goal.returns
returns c =
    let b = c.before in
    let s = b.before in
    with-above _ _ _ _ _ _ _ (limits _ s.args.self.legal).m-low (held c.before.before.before) b.add_table-first.ensures.0 c.add_above.ensures.0
