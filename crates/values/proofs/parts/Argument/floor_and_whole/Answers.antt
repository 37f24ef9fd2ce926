-- `values::parts::Argument::floor_and_whole` meets its contract: the parts are equal where the sides are.
use mathlib.Core.Path.{◌≡◌, ap, ap₂, ◌∙◌}
use mathlib.Core.Bool.{Bool}
use Prim.Native.Nat.{ℕ}
use lib.Dec.{eqb}
use lib.IntN.{nat_abs}
use Rattle.values.specs.declared.rows.Row.{Row}
use Rattle.values.specs.declared.TableUnits.{TableUnits}
use Rattle.values.specs.declared.FloorValue.{FloorValue}
use Rattle.values.specs.Exact.{AtMost}
use Rattle.values.specs.Inputs.{FloorInput}
use Rattle.values.specs.Parts.{number_part, value_part}
use Rattle.values.specs.Floor.{floor_value, is_whole}
use Rattle.values.proofs.PartLaws.{compared, same-test-eq}
use Rattle.values.proofs.FloorLaws.{floor-greatest}
use Rattle.values.proofs.parts.Argument.floor_and_whole.Goals as goal
use Rattle.values.proofs.parts.Argument.floor_and_whole.Goals.{After-count}

both : TableUnits → Bool → FloorValue
both units whole = record { units = units; whole = whole }

module _ (row : Row) (w P X : ℕ) where
  whole_is : (count number value : ℕ) → count ≡ floor_value row w P X → number ≡ number_part row w P X count → value ≡ value_part row w P X
      → eqb number value ≡ is_whole row w P X
  unfolding is_whole
  whole_is count number value count-is number_is value-is =
      rw (same-test-eq (compared row w P X (floor_value row w P X)).exactly, value-is, number_is, count-is)

  at_most : FloorInput row w P X → (count : ℕ) → count ≡ floor_value row w P X → AtMost row w P X count
  at_most input count e = rw e (floor-greatest row input.lawful w P X input.range).holds

-- the floor value as a plain number
counted : (c : After-count) → let a = c.args in c.count.result ≡ floor_value a.self.row a.self.w a.p a.self.x
counted c = c.count.ensures ∙ ap (λ (u : TableUnits). nat_abs u.0) c.floor_value-units.ensures

pub returns : goal.returns
unfolding both
returns c =
    let n = c.before.before in
    ap₂ both n.floor_value-units.ensures
    (whole_is _ _ _ _ _ _ _ (counted n) c.number_part.ensures c.value_part.ensures)

pub count-requires : goal.count-requires
count-requires c = rw c.floor_value-units.ensures tt

pub number_part-requires : goal.number_part-requires
number_part-requires c = let input = c.requires in record { floor_input = input; at_most = at_most _ _ _ _ input _ (counted c) }
