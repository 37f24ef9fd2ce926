-- `values::parts::Argument::is_too_low` meets its contract: where the word is not 0, its test is that of `is_too_low`, since the parts compare as
-- the sides do.
use mathlib.Core.Path.{◌≡◌, ap}
use mathlib.Core.Bool.{true}
use Prim.Native.Nat.{ℕ, ◌+◌}
use native.Mathlib.Omega.{arith}
use borrow.Author.Tests.{eq-eqb, ne_eqb}
use lib.Dec.{leb}
use Rattle.values.specs.declared.rows.Row.{Row}
use Rattle.values.specs.declared.parts.Parts.{Parts}
use Rattle.values.specs.Parts.{number_part, value_part}
use Rattle.values.specs.Faithful.{is_too_low}
use Rattle.values.proofs.PartLaws.{compared, same-test-le}
use Rattle.values.proofs.Bounds.{coarser-input}
use Rattle.values.proofs.parts.Argument.is_too_low.Goals as goal

module _ (row : Row) (w q X y : ℕ) where
  zero_word : y ≡ 0 → true ≡ is_too_low row w q X y
  unfolding is_too_low
  zero_word e = rw (eq-eqb y 0 e)

  by_part : (exact high : ℕ) → exact ≡ value_part row w q X → high ≡ number_part row w q X (y + 1) → (y ≡ 0 → ⊥)
      → leb high exact ≡ is_too_low row w q X y
  unfolding is_too_low
  by_part exact high exact-is high_is positive =
      rw (ne_eqb y 0 positive, same-test-le (compared row w q X (y + 1)).at_most, exact-is, high_is)

pub returns-then-word-eq0 : goal.returns-then-word-eq0
returns-then-word-eq0 c = zero_word _ _ _ _ _ c.if-word-eq0.true

pub value_part-exact-requires : goal.value_part-exact-requires
value_part-exact-requires c = let s = c.before.before in coarser-input s.args.q (omega arith) s.requires.floor_input

pub neighbour_parts-parts-requires : goal.neighbour_parts-parts-requires
neighbour_parts-parts-requires c =
    let p = c.requires in
    record { floor_input = p.floor_input; le_n = (omega (arith, c.if-word-eq0.false), omega (arith, p.y_bound)) }

pub returns : goal.returns
returns c =
    let n = c.before in
    let v = n.before in
    by_part _ _ _ _ _ _ _ v.value_part-exact.ensures (ap (λ (p : Parts). p.high) n.neighbour_parts-parts.ensures) v.if-word-eq0.false
