-- `values::parts::Argument::is_nearest` meets its contract: its three tests, each tried where those before it hold, are those of `is_nearest`,
-- since the parts compare as the sides do.
use mathlib.Core.Path.{◌≡◌, ap, ◌∙◌}
use mathlib.Core.Bool.{false}
use Prim.Native.Nat.{ℕ, suc, ◌+◌, ◌-◌, ◌*◌, ◌^◌, ◌<◌, ◌≤◌}
use native.Mathlib.Omega.{arith}
use native.Mathlib.Nat.{pow-suc}
use borrow.Author.Tests.{lt-ltb, le-ltb, lt-leb, le-leb}
use lib.Dec.{leb}
use Rattle.values.specs.declared.rows.Row.{Row}
use Rattle.values.specs.declared.parts.Parts.{Parts}
use Rattle.values.specs.Parts.{number_part, value_part}
use Rattle.values.specs.Faithful.{is_nearest}
use Rattle.values.proofs.PartLaws.{compared, same-test-le}
use Rattle.values.proofs.Bounds.{coarser-input}
use Rattle.values.proofs.parts.Argument.is_nearest.Goals as goal
use Rattle.values.proofs.parts.Argument.is_nearest.Goals.{After-neighbour_parts-parts, Else-word-eq0}

module _ (row : Row) (w q X y : ℕ) where
  zero_word : y ≡ 0 → false ≡ is_nearest row w q X y
  unfolding is_nearest
  zero_word e = rw (e, le-ltb 0 0 (omega arith))

  module _ (exact low high : ℕ) (exact-is : exact ≡ value_part row w (q + 1) X) (low-is : low ≡ number_part row w (q + 1) X (2 * y - 1))
      (high_is : high ≡ number_part row w (q + 1) X (2 * y + 1)) (positive : 0 < y) where
    far-above : exact < low → false ≡ is_nearest row w q X y
    unfolding is_nearest
    far-above h =
        rw (lt-ltb 0 y positive, lt-leb _ _ ((compared row w (q + 1) X (2 * y - 1)).more-than.1 (rw (exact-is, low-is) at h)))

    near : low ≤ exact → leb exact high ≡ is_nearest row w q X y
    unfolding is_nearest
    near h =
        rw (
          lt-ltb 0 y positive,
          le-leb _ _ ((compared row w (q + 1) X (2 * y - 1)).at_most.1 (rw (exact-is, low-is) at h)),
          same-test-le (compared row w (q + 1) X (2 * y + 1)).at_least,
          exact-is,
          high_is,
        )

pub returns-then-word-eq0 : goal.returns-then-word-eq0
returns-then-word-eq0 c = zero_word _ _ _ _ _ c.if-word-eq0.true

pub value_part-exact-requires : goal.value_part-exact-requires
value_part-exact-requires c = let s = c.before.before in coarser-input (s.args.q + 1) (omega arith) s.requires.floor_input

-- the word is not 0
positive : (c : Else-word-eq0) → 0 < c.args.y.0
positive c = omega (arith, c.if-word-eq0.false)

-- halves of a word of q + 2 bits have one bit more
halves_small : (q y : ℕ) → y < 2 ^ (q + 2) → 2 * y + 1 ≤ 2 ^ (q + 1 + 2)
halves_small q y h =
    let e : q + 1 + 2 ≡ suc (q + 2) = omega arith in
    rw (e, pow-suc) (omega arith)

pub neighbour_parts-parts-requires : goal.neighbour_parts-parts-requires
neighbour_parts-parts-requires c =
    let s = c.before.before.before in record { floor_input = coarser-input (s.args.q + 1 + 2) (omega arith) s.requires.floor_input; le_n = (omega (arith, positive c.before), halves_small _ _ s.requires.y_bound) }

-- the two parts are those of its halves' neighbours
low_part : (c : After-neighbour_parts-parts) → let a = c.args in
    c.neighbour_parts-parts.result.low ≡ number_part a.self.row a.self.w (a.q + 1) a.self.x (2 * a.y.0 - 1)
low_part c = ap (λ (p : Parts). p.low) c.neighbour_parts-parts.ensures

high_part : (c : After-neighbour_parts-parts) → let a = c.args in
    c.neighbour_parts-parts.result.high ≡ number_part a.self.row a.self.w (a.q + 1) a.self.x (2 * a.y.0 + 1)
high_part c = ap (λ (p : Parts). p.high) c.neighbour_parts-parts.ensures

pub returns-then-parts-exact : goal.returns-then-parts-exact
returns-then-parts-exact c =
    let n = c.before.before.before in
    let v = n.before in
    near _ _ _ _ _ _ _ _ v.value_part-exact.ensures (low_part n) (high_part n) (positive v.before) c.if-parts-exact.true

pub returns-else-parts-exact : goal.returns-else-parts-exact
returns-else-parts-exact c =
    let n = c.before.before in
    let v = n.before in
    lt-leb _ _ c.if-parts-exact.false
    ∙ far-above _ _ _ _ _ _ _ _ v.value_part-exact.ensures (low_part n) (high_part n) (positive v.before) c.if-parts-exact.false
