-- `values::parts::Argument::neighbour_parts` meets its contract: by the degree, n ∓ 1 and (n ∓ 1)² times the divisor, and no number on the way is
-- larger than the part of n + 1, for which there is room.
use mathlib.Core.Path.{◌≡◌, ap₂, ◌∙◌}
use Prim.Native.Nat.{ℕ, ◌+◌, ◌-◌, ◌*◌, ◌^◌, ◌≤◌, ◌<◌}
use native.Mathlib.Decide.{dec_lt}
use native.Mathlib.Omega.{arith}
use Rattle.values.specs.declared.rows.Row.{Row}
use Rattle.values.specs.declared.parts.Parts.{Parts}
use Rattle.values.specs.Inputs.{FloorInput}
use Rattle.values.specs.Parts.{divisor_part, number_part}
use Rattle.values.proofs.PartLaws.{linear, quadratic}
use Rattle.values.proofs.Bounds.{coarser-input, number-part-fits}
use Rattle.values.proofs.parts.Argument.neighbour_parts.Goals as goal
use Rattle.values.proofs.parts.Argument.neighbour_parts.Goals.{After-divisor_part-divisor}

parts : ℕ → ℕ → Parts
parts low high = record { low = low; high = high }

-- The products, in plain numbers: of p + 1, and of any n that is not 0
module _ (p d : ℕ) where
  after-p : (d ≤ (p + 1) * d) × ((p + 1) * d - d ≡ p * d)
  after-p = (omega arith, omega arith)

  square-after-p : let once = (p + 1) * d in (2 * once ≤ (p + 1) * once + d) × ((p + 1) * once + d - 2 * once ≡ p * p * d)
  square-after-p = (omega arith, omega arith)

module _ (n d : ℕ) (positive : 1 ≤ n) where
  back : n - 1 + 1 ≡ n
  back = omega arith

  one_less : (d ≤ n * d) × (n * d - d ≡ (n - 1) * d)
  one_less = rw back at (after-p (n - 1) d)

  square-less : (2 * (n * d) ≤ n * (n * d) + d) × (n * (n * d) + d - 2 * (n * d) ≡ (n - 1) * (n - 1) * d)
  square-less = rw back at (square-after-p (n - 1) d)

module _ (n d : ℕ) where
  one_more : n * d + d ≡ (n + 1) * d
  one_more = omega arith

  square-more : n * (n * d) + d + 2 * (n * d) ≡ (n + 1) * (n + 1) * d
  square-more = omega arith

module _ (row : Row) (w s X divisor : ℕ) (divisor-is : divisor ≡ divisor_part row w s X) (input : FloorInput row w (s + 2) X) where
  single : row.k ≡ 1 → (n : ℕ) → n * divisor ≡ number_part row w s X n
  single = linear row w s X divisor divisor-is

  squared : (row.k ≡ 1 → ⊥) → (n : ℕ) → n * n * divisor ≡ number_part row w s X n
  squared = quadratic row w s X divisor divisor-is input.lawful input.room.degree

  module _ (n : ℕ) (positive : 1 ≤ n) (small : n + 1 ≤ 2 ^ (s + 2)) where
    room : number_part row w s X (n + 1) < 2 ^ 64
    room = number-part-fits row w s X input (n + 1) small

    room-linear : row.k ≡ 1 → (n + 1) * divisor < 2 ^ 64
    room-linear e = rw (single e (n + 1)) room

    room-quadratic : (row.k ≡ 1 → ⊥) → (n + 1) * (n + 1) * divisor < 2 ^ 64
    room-quadratic other = rw (squared other (n + 1)) room

    of-degree-1 : row.k ≡ 1
        → parts (n * divisor - divisor) (n * divisor + divisor) ≡ parts (number_part row w s X (n - 1)) (number_part row w s X (n + 1))
    of-degree-1 e = ap₂ parts ((one_less n divisor positive).1 ∙ single e (n - 1)) (one_more n divisor ∙ single e (n + 1))

    of-degree-2 : (row.k ≡ 1 → ⊥) → let middle = n * (n * divisor) + divisor in
        parts (middle - 2 * (n * divisor)) (middle + 2 * (n * divisor))
        ≡ parts (number_part row w s X (n - 1)) (number_part row w s X (n + 1))
    of-degree-2 other =
        ap₂ parts ((square-less n divisor positive).1 ∙ squared other (n - 1)) (square-more n divisor ∙ squared other (n + 1))

pub divisor_part-divisor-requires : goal.divisor_part-divisor-requires
divisor_part-divisor-requires c = coarser-input c.args.s (omega arith) c.requires.floor_input

-- this call's number: by the degree, nothing on the way is larger than the part of n + 1
linear-room : (c : After-divisor_part-divisor) → let a = c.args in a.self.row.k ≡ 1 → (a.n + 1) * c.divisor_part-divisor.result < 2 ^ 64
linear-room c = let p = c.requires in room-linear _ _ _ _ _ c.divisor_part-divisor.ensures p.floor_input _ p.le_n.0 p.le_n.1

quadratic-room : (c : After-divisor_part-divisor) → let a = c.args in
    (a.self.row.k ≡ 1 → ⊥) → (a.n + 1) * (a.n + 1) * c.divisor_part-divisor.result < 2 ^ 64
quadratic-room c = let p = c.requires in room-quadratic _ _ _ _ _ c.divisor_part-divisor.ensures p.floor_input _ p.le_n.0 p.le_n.1

pub overflow_mul-once : goal.overflow_mul-once
overflow_mul-once c = elim (dec_lt 1 c.args.self.row.k) [
  | yes more ↦ omega (arith, quadratic-room c (λ e. omega arith))
  | no one ↦ omega (arith, linear-room c (omega (arith, c.requires.floor_input.lawful.k-pos)))
]

pub overflow_sub-result : goal.overflow_sub-result
overflow_sub-result c = omega (arith, (one_less _ c.divisor_part-divisor.result c.requires.le_n.0).0)

pub overflow_add-result : goal.overflow_add-result
overflow_add-result c = omega (arith, linear-room c.before.before c.if-self-eq1.true)

pub returns-then-self-eq1 : goal.returns-then-self-eq1
unfolding parts
returns-then-self-eq1 c =
    let q = c.before.before in
    let p = q.requires in
    of-degree-1 _ _ _ _ _ q.divisor_part-divisor.ensures p.floor_input _ p.le_n.0 p.le_n.1 c.if-self-eq1.true

pub overflow_mul-middle : goal.overflow_mul-middle
overflow_mul-middle c = omega (arith, quadratic-room c.before.before c.if-self-eq1.false)

pub overflow_add-middle : goal.overflow_add-middle
overflow_add-middle c = omega (arith, quadratic-room c.before.before c.if-self-eq1.false)

pub overflow_mul-result : goal.overflow_mul-result
overflow_mul-result c = omega (arith, quadratic-room c.before.before c.if-self-eq1.false)

pub overflow_sub-result-2 : goal.overflow_sub-result-2
overflow_sub-result-2 c = (square-less _ _ c.requires.le_n.0).0

pub overflow_mul-result-2 : goal.overflow_mul-result-2
overflow_mul-result-2 c = omega (arith, quadratic-room c.before.before c.if-self-eq1.false)

pub overflow_add-result-2 : goal.overflow_add-result-2
overflow_add-result-2 c = omega (arith, quadratic-room c.before.before c.if-self-eq1.false)

pub returns : goal.returns
unfolding parts
returns c =
    let q = c.before.before in
    let p = q.requires in
    of-degree-2 _ _ _ _ _ q.divisor_part-divisor.ensures p.floor_input _ p.le_n.0 p.le_n.1 c.if-self-eq1.false
