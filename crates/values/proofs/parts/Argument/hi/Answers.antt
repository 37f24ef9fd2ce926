-- `values::parts::Argument::hi` meets its contract: the floor value, or one more, is the value rounded up, which is small, so nothing wraps.
use mathlib.Core.Path.{◌≡◌, ap, ◌∙◌}
use mathlib.Core.Bool.{true, false}
use Prim.Native.Nat.{ℕ, ◌+◌, ◌*◌, ◌/◌, ◌≤◌}
use native.Mathlib.Nat.{add-zero}
use native.Mathlib.Omega.{arith}
use lib.IntN.{nat_abs}
use Rattle.general.proofs.Tests.{tested}
use Rattle.values.specs.declared.rows.Row.{Row}
use Rattle.values.specs.declared.FloorValue.{FloorValue}
use Rattle.values.specs.Room.{floor_bound}
use Rattle.values.specs.Inputs.{FloorInput}
use Rattle.values.specs.Floor.{floor_value, is_whole}
use Rattle.values.specs.Slopes as Slopes
use Rattle.values.specs.Slopes.{ceiling_value}
use Rattle.values.proofs.Bounds.{step_small, step-pos, quotient_fits, floor-small, ceiling-low}
use Rattle.values.proofs.parts.Argument.hi.Goals as goal
use Rattle.values.proofs.parts.Argument.hi.Goals.{After-count, then-floor, else-floor}

module _ (row : Row) (w P s count more : ℕ) (count-is : count ≡ floor_value row w P s) where
  -- nothing more where the value is whole, else one
  whole : is_whole row w P s ≡ true → more ≡ 0 → count + more ≡ ceiling_value row w P s
  unfolding ceiling_value
  whole e none = rw (e, none, count-is) (add-zero (floor_value row w P s))

  not-whole : is_whole row w P s ≡ false → more ≡ 1 → count + more ≡ ceiling_value row w P s
  unfolding ceiling_value
  not-whole e one = rw (e, one, count-is)

  module _ (is : count + more ≡ ceiling_value row w P s) where
    hi-is : (count + more) * 65536 / (row.k * s) + 1 ≡ Slopes.hi row w P s
    unfolding Slopes.hi
    hi-is = rw is

    small : FloorInput row w P s → count + more ≤ floor_bound
    small input = rw is (omega (arith, ceiling-low row w P s, floor-small row w P s input))

-- the floor value as a plain number, and the value rounded c
counted : (c : After-count) → let a = c.args in
    c.count.result ≡ floor_value a.self.row a.self.w a.p a.self.x
counted c = c.count.ensures ∙ ap (λ (f : FloorValue). nat_abs f.units.0) c.floor_and_whole-floor.ensures

rounded : (c : After-count) → let a = c.args in
    c.count.result + c.if-floor.more ≡ ceiling_value a.self.row a.self.w a.p a.self.x
rounded c =
    let told = ap (λ (f : FloorValue). f.whole) c.floor_and_whole-floor.ensures in
    elim c.if-floor.branch [
      | then-floor w ↦ whole _ _ _ _ _ _ (counted c) (tested told w.if-floor.true) w.more-is
      | else-floor w ↦ not-whole _ _ _ _ _ _ (counted c) (tested told w.if-floor.false) w.more-is
    ]

pub returns : goal.returns
returns c = let n = c.before.before.before in hi-is _ _ _ _ _ _ (counted n) (rounded n)

pub count-requires : goal.count-requires
count-requires c = rw c.floor_and_whole-floor.ensures tt

within : (c : After-count) → c.count.result + c.if-floor.more ≤ floor_bound
within c = small _ _ _ _ _ _ (counted c) (rounded c) c.requires

pub overflow_add-result : goal.overflow_add-result
overflow_add-result c = omega (arith, within c.before.before)

pub overflow_mul-result : goal.overflow_mul-result
overflow_mul-result c = omega (arith, within c.before.before)

pub overflow_mul-result-2 : goal.overflow_mul-result-2
overflow_mul-result-2 c = omega (arith, step_small _ _ _ _ c.requires)

pub nonzero_div-result : goal.nonzero_div-result
nonzero_div-result c = step-pos _ _ _ _ c.requires

pub overflow_add-result-2 : goal.overflow_add-result-2
overflow_add-result-2 c = record { fits = quotient_fits _ _ _ (omega (arith, within c.before.before.before)) }
