-- `values::parts::Argument::floor_value` meets its contract: the root is small, so its count fits a signed number.
use mathlib.Core.Path.{◌≡◌, ap, ◌∙◌}
use Prim.Native.Nat.{ℕ, ◌<◌}
use native.Mathlib.Omega.{arith}
use lib.IntN.{ℤ, pos}
use mir.Syntax.{w64}
use mir.ValLaws.{to_z_pos}
use Rattle.values.specs.declared.rows.Row.{Row}
use Rattle.values.specs.declared.TableUnits.{TableUnits}
use Rattle.values.specs.Inputs.{FloorInput, RootInput}
use Rattle.values.specs.Room.{floor_bound}
use Rattle.values.specs.Floor.{scaled, floor_value}
use Rattle.values.proofs.FloorLaws.{scaled-high}
use Rattle.values.proofs.Bounds.{floor-small}
use Rattle.values.proofs.parts.Argument.floor_value.Goals as goal

units : ℤ → TableUnits
units z = record { 0 = z }

module _ (row : Row) (w P X : ℕ) (input : FloorInput row w P X) where
  root-input : RootInput row.k P (scaled row w P X)
  root-input = record {
    k-pos = input.lawful.k-pos;
    k-small = input.room.degree;
    p-small = input.room.s-small;
    limit-small = scaled-high row input.lawful w P X input.range;
  }

  few : {r : ℕ} → r ≡ floor_value row w P X → r < floor_bound
  few e = rw e (floor-small row w P X input)

pub floor_root-root-requires : goal.floor_root-root-requires
floor_root-root-requires c = rw c.scaled.ensures (root-input _ _ _ _ c.requires)

pub overflow_cast-result : goal.overflow_cast-result
unfolding floor_value
overflow_cast-result c =
    let small = few _ _ _ _ c.requires (rw c.scaled.ensures at c.floor_root-root.ensures) in
    record { sfits = omega (arith, small) }

pub returns : goal.returns
unfolding floor_value units
returns c =
    let e = rw c.scaled.ensures at c.floor_root-root.ensures in
    ap units (to_z_pos w64 _ (omega (arith, few _ _ _ _ c.requires e)) ∙ ap pos e)
