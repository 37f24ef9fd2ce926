-- The sides are the parts times one power of two, so that the parts compare as the sides do, and their quotient is that of the sides.
use mathlib.Core.Path.{◌≡◌, refl, sym, ap, ap₂, ◌∙◌}
use mathlib.Core.Bool.{Bool, true, false, cond}
use mathlib.Core.Logic.{◌↔◌}
use Prim.Native.Nat.{ℕ, zero, suc, ◌+◌, ◌-◌, ◌*◌, ◌/◌, ◌^◌, ◌≤◌, ◌<◌, min}
use native.Mathlib.Nat.{le_antisymm, le_of_eq, lt_of_not-le, not-le_of_lt, zero-mul, mul_assoc, mul_comm, mul-one, mul-le-mul_right, mul-lt-mul_of_pos_right}
use native.Mathlib.Nat.{le_of_mul-le-mul_right, lt_of_mul-lt-mul_right, mul-div-mul_right, min_comm, sub-add-min_cancel}
use native.Mathlib.Decide.{dec_lt}
use native.Mathlib.Omega.{arith}
use borrow.Author.Tests.{lt-ltb, le-ltb, lt-leb, le-leb, eqb-true, eq-eqb}
use lib.Dec.{ltb, leb, eqb}
use lib.Pow.{pow-add, pow_pos}
use Rattle.general.proofs.Tests as Tests
use Rattle.values.specs.declared.rows.Row.{Row}
use Rattle.values.specs.Rows.{Lawful}
use Rattle.values.specs.Room.{highest_degree}
use Rattle.values.specs.Inputs.{InRange}
use Rattle.values.specs.Exact.{num, den, number_side, value_side, AtMost, LessThan, AtLeast, MoreThan, Exactly}
use Rattle.values.specs.Floor.{scaled}
use Rattle.values.specs.Parts.{divisor_part, number_part, value_part}
use Rattle.values.proofs.Powers.{pow-pow}
use Rattle.values.proofs.ExactLaws.{den_pos}
use Rattle.values.proofs.NewtonLaws.{first-power, square}

-- The parts of a number and of the exact value compare as the two sides do.
pub record Compared (row : Row) (w s X n : ℕ) : Type 0 where
  pub at_most : AtMost row w s X n ↔ (number_part row w s X n ≤ value_part row w s X)
  pub less-than : LessThan row w s X n ↔ (number_part row w s X n < value_part row w s X)
  pub at_least : AtLeast row w s X n ↔ (value_part row w s X ≤ number_part row w s X n)
  pub more-than : MoreThan row w s X n ↔ (value_part row w s X < number_part row w s X n)
  pub exactly : Exactly row w s X n ↔ (number_part row w s X n ≡ value_part row w s X)

scaled-le : {a b f : ℕ} → 0 < f → (a * f ≤ b * f) ↔ (a ≤ b)
scaled-le {f} pos = (λ h. le_of_mul-le-mul_right h pos, λ h. mul-le-mul_right f h)

scaled-lt : {a b f : ℕ} → 0 < f → (a * f < b * f) ↔ (a < b)
scaled-lt {f} pos = (λ h. lt_of_mul-lt-mul_right f h, λ h. mul-lt-mul_of_pos_right h pos)

pub scaled-eq : {a b f : ℕ} → 0 < f → (a * f ≡ b * f) ↔ (a ≡ b)
scaled-eq {f} pos = (
  λ e. le_antisymm ((scaled-le pos).0 (le_of_eq e)) ((scaled-le pos).0 (le_of_eq (sym e))),
  λ e. ap (λ (n : ℕ). n * f) e,
)

-- Two tests of facts that hold together
pub same_test : {a b c d : ℕ} → (a < b) ↔ (c < d) → ltb a b ≡ ltb c d
same_test {a} {b} {c} {d} alike = elim (dec_lt a b) [
  | yes h ↦ lt-ltb a b h ∙ sym (lt-ltb c d (alike.0 h))
  | no n ↦ le-ltb a b (omega arith) ∙ sym (le-ltb c d (omega (arith, lt_of_not-le {n = suc c} {m = d} (λ h. n (alike.1 h)))))
]

pub same-test-le : {a b c d : ℕ} → (a ≤ b) ↔ (c ≤ d) → leb a b ≡ leb c d
same-test-le {a} {b} {c} {d} alike = elim (dec_lt b a) [
  | yes h ↦ lt-leb a b h ∙ sym (lt-leb c d (lt_of_not-le (λ k. not-le_of_lt h (alike.1 k))))
  | no n ↦ let h : a ≤ b = omega arith in le-leb a b h ∙ sym (le-leb c d (alike.0 h))
]

pub same-test-eq : {a b c d : ℕ} → (a ≡ b) ↔ (c ≡ d) → eqb a b ≡ eqb c d
same-test-eq {a} {b} {c} {d} alike =
    Tests.same_test (eqb a b) (eqb c d) (λ e. eq-eqb c d (alike.0 (eqb-true a b e))) (λ e. eq-eqb a b (alike.1 (eqb-true c d e)))

-- The power of two that the sides have in common, for 2^w and 2^e
abbrev common : Bool → ℕ → ℕ → ℕ
common rising w e = cond rising (2 ^ min w e) 1

common-pos : (rising : Bool) (w e : ℕ) → 0 < common rising w e
common-pos true w e = pow_pos (min w e)
common-pos false w e = omega arith

-- 2^a is 2^(a-b) times the smaller of 2^a and 2^b
cut : (a b : ℕ) → 2 ^ a ≡ 2 ^ (a - b) * 2 ^ min a b
cut a b = sym (ap (λ (n : ℕ). 2 ^ n) (sub-add-min_cancel a b)) ∙ pow-add 2 (a - b) (min a b)

divisor-cut : (rising : Bool) (w e u : ℕ) → cond rising (2 ^ w) u ≡ cond rising (2 ^ (w - e)) u * common rising w e
divisor-cut true w e u = cut w e
divisor-cut false w e u = sym (mul-one u)

value-cut : (rising : Bool) (w e u : ℕ)
    → 2 ^ e * cond rising u (2 ^ w) ≡ cond rising (u * 2 ^ (e - w)) (2 ^ (e + w)) * common rising w e
value-cut true w e u =
    mul_comm (2 ^ e) u
    ∙ ap (λ (n : ℕ). u * n) (cut e w ∙ ap (λ (n : ℕ). 2 ^ (e - w) * 2 ^ n) (min_comm e w))
    ∙ sym (mul_assoc u (2 ^ (e - w)) (2 ^ min w e))
value-cut false w e u = sym (pow-add 2 e w) ∙ sym (mul-one (2 ^ (e + w)))

module _ (row : Row) (w s X : ℕ) where
  abbrev factor : ℕ
  factor = common row.rising w (row.k * s)

  divisor-side : den row w X ≡ divisor_part row w s X * factor
  unfolding den divisor_part
  divisor-side = divisor-cut row.rising w (row.k * s) (row.c * X)

  number-side : (n : ℕ) → number_side row w X n ≡ number_part row w s X n * factor
  unfolding number_side number_part
  number-side n = ap (λ (d : ℕ). n ^ row.k * d) divisor-side ∙ sym (mul_assoc (n ^ row.k) (divisor_part row w s X) factor)

  value-side : value_side row w s X ≡ value_part row w s X * factor
  unfolding value_side value_part num
  value-side = rw (pow-pow 2 row.k s) (value-cut row.rising w (row.k * s) (row.c * X))

  factor-pos : 0 < factor
  factor-pos = common-pos row.rising w (row.k * s)

  pub compared : (n : ℕ) → Compared row w s X n
  compared n =
      record {
        at_most = rw (number-side n, value-side) (scaled-le factor-pos);
        less-than = rw (number-side n, value-side) (scaled-lt factor-pos);
        at_least = rw (number-side n, value-side) (scaled-le factor-pos);
        more-than = rw (number-side n, value-side) (scaled-lt factor-pos);
        exactly = rw (number-side n, value-side) (scaled-eq factor-pos);
      }

  pub scaled-parts : scaled row w s X ≡ value_part row w s X / divisor_part row w s X
  unfolding scaled
  scaled-parts = rw (value-side, divisor-side) (mul-div-mul_right _ _ factor-pos)

  pub divisor-part-pos : Lawful row → InRange w X → 0 < divisor_part row w s X
  divisor-part-pos lawful range = go (divisor_part row w s X) refl
    where
      go : (d : ℕ) → divisor_part row w s X ≡ d → 0 < d
      go zero e = absurd (omega (arith, rw (divisor-side, e, zero-mul) at (den_pos row lawful w X range)))
      go (suc d) e = omega arith

-- A number's part, by the degree
module _ (row : Row) (w s X divisor : ℕ) (divisor-is : divisor ≡ divisor_part row w s X) where
  part : (n : ℕ) {power : ℕ} → power ≡ n ^ row.k → power * divisor ≡ number_part row w s X n
  unfolding number_part
  part n e = ap₂ (λ (a b : ℕ). a * b) e divisor-is

  pub linear : row.k ≡ 1 → (n : ℕ) → n * divisor ≡ number_part row w s X n
  linear e n = part n (rw (e, first-power n))

  pub quadratic : Lawful row → row.k ≤ highest_degree → (row.k ≡ 1 → ⊥) → (n : ℕ) → n * n * divisor ≡ number_part row w s X n
  quadratic lawful degree other n =
      let e : row.k ≡ 2 = omega (arith, other, lawful.k-pos, degree) in
      part n (rw (e, square n))
