-- `tables::sums::OffsetTables::add_above` meets its contract: after i tables from 1 on the sum is `Summed .. i`, and after the last it has all of them.
use mathlib.Core.Path.{◌≡◌, ap}
use mathlib.Core.List.{List}
use Prim.Native.Nat.{ℕ, ◌+◌, ◌^◌, ◌≤◌, ◌<◌}
use native.Mathlib.Omega.{arith}
use lib.IntN.{ℤ, ◌+ℤ◌}
use lib.Signed.{mag}
use Rattle.values.specs.declared.TableUnits.{TableUnits}
use Rattle.design.specs.declared.Design.{Design}
use Rattle.design.proofs.LegalLaws.{limits}
use Rattle.tables.specs.Inputs.{sum_above}
use Rattle.tables.specs.Sum.{offset_for}
use Rattle.tables.proofs.LookupLaws.{looked}
use Rattle.tables.proofs.SumLaws.{Summed, units, summed-none, summed-more, summed-all}
use Rattle.tables.proofs.sums.OffsetTables.add_above.Goals as goal
use Rattle.tables.proofs.sums.OffsetTables.add_above.Goals.{After-add_table-one, After-add_table-two, Else-m-eq1, Else-m-eq2, Else-m-eq3}

module _ {d : Design} {before : ℤ} {offsets : List ℤ} {x i : ℕ} {sum : ℤ} (s : Summed d before offsets x i sum) where
  -- one table more,
  more : {next : TableUnits} → (next ≡ units (sum +ℤ offset_for d offsets x (i + 1))) × (mag next.0 ≤ mag sum + 2 ^ 32)
      → Summed d before offsets x (i + 1) next.0
  more p = summed-more d before offsets x s (ap (λ (n : TableUnits). n.0) p.0) p.1

  -- and the last of them
  all : mag before ≤ 2 ^ 34 → d.m ≡ i + 1 → i ≤ 3 → (units sum ≡ units (sum_above d before offsets x)) × (mag sum ≤ 2 ^ 40)
  all low last few = let p = summed-all d before offsets x low s last few in (ap units p.0, p.1)

-- the sum after one table and two, where there are so many
one : (c : After-add_table-one) → let a = c.args in
    Summed a.self.design a.sum.0 a.self.offsets.now a.x 1 c.add_table-one.result.0
one c = more (summed-none _ _ _ _) c.add_table-one.ensures

two : (c : After-add_table-two) → let a = c.args in
    Summed a.self.design a.sum.0 a.self.offsets.now a.x 2 c.add_table-two.result.0
two c = more (one c.before.before.before) c.add_table-two.ensures

-- a second table, a third, a fourth
second : (c : Else-m-eq1) → 1 < c.args.self.design.m
second c = omega (arith, (limits _ c.args.self.legal).m-low, c.if-m-eq1.false)

third : (c : Else-m-eq2) → 2 < c.args.self.design.m
third c = omega (arith, second c.before.before.before, c.if-m-eq2.false)

fourth : (c : Else-m-eq3) → 3 < c.args.self.design.m
fourth c = omega (arith, third c.before.before.before, c.if-m-eq3.false)

pub returns-then-m-eq1 : goal.returns-then-m-eq1
returns-then-m-eq1 c = all (summed-none _ _ _ _) c.requires.1 (omega (arith, c.if-m-eq1.true)) (omega arith)

pub add_table-one-requires : goal.add_table-one-requires
add_table-one-requires c =
    let p = c.requires in
    record { lookup_value = ((looked c.args.self.lookups_value).second_is, p.0); i_lt_m = (second c.before, omega (arith, p.1)) }

pub returns-then-m-eq2 : goal.returns-then-m-eq2
returns-then-m-eq2 c = all (one c.before) c.requires.1 (omega (arith, c.if-m-eq2.true)) (omega arith)

pub add_table-two-requires : goal.add_table-two-requires
add_table-two-requires c =
    let p = c.requires in
    record { lookup_value = ((looked c.args.self.lookups_value).third-is, p.0); i_lt_m = (third c.before, omega (arith, (one c.before.before).small, p.1)) }

pub returns-then-m-eq3 : goal.returns-then-m-eq3
returns-then-m-eq3 c = all (two c.before) c.requires.1 (omega (arith, c.if-m-eq3.true)) (omega arith)

pub add_table-requires : goal.add_table-requires
add_table-requires c =
    let p = c.requires in
    record { lookup_value = ((looked c.args.self.lookups_value).fourth-is, p.0); i_lt_m = (fourth c.before, omega (arith, (two c.before.before).small, p.1)) }

pub returns : goal.returns
returns c =
    let e = c.before in
    let p = e.requires in
    all (more (two c.before.before.before) c.add_table.ensures) p.1 (omega (arith, fourth c.before.before, (limits _ e.args.self.legal).m-high)) (omega arith)
