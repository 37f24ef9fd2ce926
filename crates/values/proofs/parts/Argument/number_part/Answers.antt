-- `values::parts::Argument::number_part` meets its contract: by the degree, n and n² times the divisor. For a number that is at most the exact value
-- the part is at most the value's, for which there is room.
use mathlib.Core.Path.{◌≡◌}
use Prim.Native.Nat.{ℕ, zero, suc, ◌*◌, ◌^◌, ◌≤◌, ◌<◌}
use native.Mathlib.Nat.{lt_of_le_of_lt, mul_assoc, zero-mul, mul-le-mul_right}
use native.Mathlib.Decide.{dec_lt}
use native.Mathlib.Omega.{arith}
use Rattle.values.specs.declared.rows.Row.{Row}
use Rattle.values.specs.Exact.{AtMost}
use Rattle.values.specs.Inputs.{FloorInput}
use Rattle.values.specs.Parts.{divisor_part, number_part}
use Rattle.values.proofs.PartLaws.{compared, linear, quadratic}
use Rattle.values.proofs.Bounds.{value-part-fits}
use Rattle.values.proofs.parts.Argument.number_part.Goals as goal

one-le : (m : ℕ) → 1 ≤ suc m
one-le m = omega arith

module _ (row : Row) (w s X n divisor : ℕ) (divisor-is : divisor ≡ divisor_part row w s X) (input : FloorInput row w s X) where
  once_is : row.k ≡ 1 → n * divisor ≡ number_part row w s X n
  once_is e = linear row w s X divisor divisor-is e n

  twice-is : (row.k ≡ 1 → ⊥) → n * (n * divisor) ≡ number_part row w s X n
  twice-is other = rw (← mul_assoc n n divisor) (quadratic row w s X divisor divisor-is input.lawful input.room.degree other n)

  module _ (at_most : AtMost row w s X n) where
    room : number_part row w s X n < 2 ^ 64
    room = lt_of_le_of_lt ((compared row w s X n).at_most.0 at_most) (value-part-fits row w s X input)

    once-fits : n * divisor < 2 ^ 64
    once-fits = elim (dec_lt 1 row.k) [
      | yes more ↦ below n (rw (twice-is (λ e. omega arith)) room)
      | no one ↦ rw (once_is (omega (arith, input.lawful.k-pos))) room
    ]
      where
        below : (m : ℕ) → m * (m * divisor) < 2 ^ 64 → m * divisor < 2 ^ 64
        below zero h = rw (zero-mul divisor) (omega arith)
        below (suc m) h = omega (arith, mul-le-mul_right (suc m * divisor) (one-le m), h)

    twice-fits : (row.k ≡ 1 → ⊥) → n * (n * divisor) < 2 ^ 64
    twice-fits other = rw (twice-is other) room

pub returns-then-self-eq1 : goal.returns-then-self-eq1
returns-then-self-eq1 c =
    let p = c.before.before in
    once_is _ _ _ _ _ _ p.divisor_part.ensures p.requires.floor_input c.if-self-eq1.true

pub returns-else-self-eq1 : goal.returns-else-self-eq1
returns-else-self-eq1 c =
    let p = c.before.before in
    twice-is _ _ _ _ _ _ p.divisor_part.ensures p.requires.floor_input c.if-self-eq1.false

pub overflow_mul-once : goal.overflow_mul-once
overflow_mul-once c = record { fits = once-fits _ _ _ _ _ _ c.divisor_part.ensures c.requires.floor_input c.requires.at_most }

pub overflow_mul-result : goal.overflow_mul-result
overflow_mul-result c =
    let p = c.before.before in
    record { fits = twice-fits _ _ _ _ _ _ p.divisor_part.ensures p.requires.floor_input p.requires.at_most c.if-self-eq1.false }
