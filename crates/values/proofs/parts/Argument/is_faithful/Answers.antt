-- `values::parts::Argument::is_faithful` meets its contract: its three tests, each tried where those before it hold, are those of `is_faithful`,
-- since the parts compare as the sides do.
use mathlib.Core.Path.{◌≡◌, ap, ◌∙◌}
use mathlib.Core.Bool.{false}
use Prim.Native.Nat.{ℕ, ◌+◌, ◌-◌, ◌<◌, ◌≤◌}
use native.Mathlib.Omega.{arith}
use borrow.Author.Tests.{lt-ltb, le-ltb}
use lib.Dec.{ltb}
use Rattle.values.specs.declared.rows.Row.{Row}
use Rattle.values.specs.declared.parts.Parts.{Parts}
use Rattle.values.specs.Parts.{number_part, value_part}
use Rattle.values.specs.Faithful.{is_faithful}
use Rattle.values.proofs.PartLaws.{compared, same_test}
use Rattle.values.proofs.Bounds.{coarser-input}
use Rattle.values.proofs.parts.Argument.is_faithful.Goals as goal
use Rattle.values.proofs.parts.Argument.is_faithful.Goals.{After-neighbour_parts-parts, Else-word-eq0}

module _ (row : Row) (w q X y : ℕ) where
  zero_word : y ≡ 0 → false ≡ is_faithful row w q X y
  unfolding is_faithful
  zero_word e = rw (e, le-ltb 0 0 (omega arith))

  module _ (exact low high : ℕ) (exact-is : exact ≡ value_part row w q X) (low-is : low ≡ number_part row w q X (y - 1))
      (high_is : high ≡ number_part row w q X (y + 1)) (positive : 0 < y) where
    too-high : exact ≤ low → false ≡ is_faithful row w q X y
    unfolding is_faithful
    too-high h = rw (lt-ltb 0 y positive, le-ltb _ _ ((compared row w q X (y - 1)).at_least.1 (rw (exact-is, low-is) at h)))

    near : low < exact → ltb exact high ≡ is_faithful row w q X y
    unfolding is_faithful
    near h =
        rw (
          lt-ltb 0 y positive,
          lt-ltb _ _ ((compared row w q X (y - 1)).less-than.1 (rw (exact-is, low-is) at h)),
          same_test (compared row w q X (y + 1)).more-than,
          exact-is,
          high_is,
        )

pub returns-then-word-eq0 : goal.returns-then-word-eq0
returns-then-word-eq0 c = zero_word _ _ _ _ _ c.if-word-eq0.true

pub value_part-exact-requires : goal.value_part-exact-requires
value_part-exact-requires c = let s = c.before.before in coarser-input s.args.q (omega arith) s.requires.floor_input

-- the word is not 0
positive : (c : Else-word-eq0) → 0 < c.args.y.0
positive c = omega (arith, c.if-word-eq0.false)

pub neighbour_parts-parts-requires : goal.neighbour_parts-parts-requires
neighbour_parts-parts-requires c =
    let p = c.requires in
    record { floor_input = p.floor_input; le_n = (positive c.before, omega (arith, p.y_bound)) }

-- the two parts are those of its neighbours
low_part : (c : After-neighbour_parts-parts) → let a = c.args in
    c.neighbour_parts-parts.result.low ≡ number_part a.self.row a.self.w a.q a.self.x (a.y.0 - 1)
low_part c = ap (λ (p : Parts). p.low) c.neighbour_parts-parts.ensures

high_part : (c : After-neighbour_parts-parts) → let a = c.args in
    c.neighbour_parts-parts.result.high ≡ number_part a.self.row a.self.w a.q a.self.x (a.y.0 + 1)
high_part c = ap (λ (p : Parts). p.high) c.neighbour_parts-parts.ensures

pub returns-then-parts-exact : goal.returns-then-parts-exact
returns-then-parts-exact c =
    let n = c.before.before.before in
    let v = n.before in
    near _ _ _ _ _ _ _ _ v.value_part-exact.ensures (low_part n) (high_part n) (positive v.before) c.if-parts-exact.true

pub returns-else-parts-exact : goal.returns-else-parts-exact
returns-else-parts-exact c =
    let n = c.before.before in
    let v = n.before in
    le-ltb _ _ c.if-parts-exact.false
    ∙ too-high _ _ _ _ _ _ _ _ v.value_part-exact.ensures (low_part n) (high_part n) (positive v.before) c.if-parts-exact.false
