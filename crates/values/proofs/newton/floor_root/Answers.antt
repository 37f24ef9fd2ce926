-- `values::newton::floor_root` meets its contract, for every degree. The invariant: the root, rounded down, is not above what the steps
-- have come to.
use mathlib.Core.Path.{◌≡◌}
use Prim.Native.Nat.{ℕ, zero, suc, ◌+◌, ◌^◌, ◌<◌}
use native.Mathlib.Nat.{pow-suc, mul-zero, mul-le-mul, div-le_self, lt_of_le_of_lt}
use native.Mathlib.Omega.{arith}
use borrow.Author.Tests.{ltb-true, ltb-false}
use lib.Pow.{pow_mono, pow_pos}
use Rattle.general.proofs.Tests.{tested}
use Rattle.values.specs.Room.{highest_degree, finest_unit}
use Rattle.values.specs.Inputs.{RootInput, StepInput, Stepwise}
use Rattle.values.specs.Floor.{root_from}
use Rattle.values.specs.Newton.{newton_sum, newton_step}
use Rattle.values.proofs.ExactLaws.{degree}
use Rattle.values.proofs.FloorLaws.{IsRoot, root-found}
use Rattle.values.proofs.NewtonLaws.{step-above, sum-below, step-closer, first-sum, first-power}
use Rattle.values.proofs.newton.floor_root.Invariants.{Inv}
use Rattle.values.proofs.newton.floor_root.Goals as goal
use Rattle.values.proofs.newton.floor_root.Goals.{In-loop-root}

-- Of degree 1
itself : (k p limit : ℕ) → RootInput k p limit → k ≡ 1 → limit ≡ root_from k limit (p + 1) 0
itself k p limit input e =
    let root : IsRoot k limit limit = rw e record { low = rw first-power (omega arith); high = rw first-power (omega arith) } in
    root-found k limit input.k-pos (p + 1) input.limit-small root

module _ (k p limit : ℕ) (input : RootInput k p limit) (other : k ≡ 1 → ⊥) where
  stepwise : Stepwise k
  stepwise = record { k-low = omega (arith, other, input.k-pos); k-small = input.k-small }

  -- The first step, from 2^p
  sum-small : newton_sum k limit (2 ^ p) < 2 ^ 32
  sum-small =
      lt_of_le_of_lt (first-sum k p limit input.k-pos input.limit-small)
      (omega (
        arith,
        mul-le-mul (pow_mono {j = finest_unit} input.p-small) input.k-small,
        mul-le-mul (pow_mono {j = finest_unit} input.p-small) (pow_mono {j = highest_degree} input.k-small),
      ))

  first-input : StepInput k limit (2 ^ p)
  first-input =
      record {
        degree = stepwise;
        r-pos = pow_pos p;
        r_small = omega (arith, pow_mono {j = finest_unit} input.p-small);
        sum-small = omega (arith, sum-small);
      }

  begun : (first : ℕ) → first ≡ newton_step k limit (2 ^ p) → Inv k limit first
  unfolding newton_step
  begun first e =
      rw e
      record {
        high = step-above k limit (2 ^ p) input.k-pos (pow_pos p);
        small = lt_of_le_of_lt (div-le_self (newton_sum k limit (2 ^ p)) k) sum-small;
      }

  -- A step from above the root
  module _ (root : ℕ) (inv : Inv k limit root) (above : limit < root ^ k) where
    root-pos : 0 < root
    root-pos = go root above
      where
        go : (r : ℕ) → limit < r ^ k → 0 < r
        go zero h = let d = degree k input.k-pos in absurd (omega (arith, rw (d.1, pow-suc, mul-zero) at h))
        go (suc r) h = omega arith

    next-input : StepInput k limit root
    next-input =
        record {
          degree = stepwise;
          r-pos = root-pos;
          r_small = inv.small;
          sum-small = omega (
            arith,
            sum-below k limit root input.k-pos root-pos above,
            mul-le-mul input.k-small inv.small,
          );
        }

    closer : newton_step k limit root < root
    closer = step-closer k limit root input.k-pos root-pos above

    again : (next : ℕ) → next ≡ newton_step k limit root → Inv k limit next
    again next e = rw e record { high = step-above k limit root input.k-pos root-pos; small = omega (arith, closer, inv.small) }

pub returns-then-k-eq1 : goal.returns-then-k-eq1
returns-then-k-eq1 c = itself _ _ _ c.requires c.if-k-eq1.true

pub pow2-requires : goal.pow2-requires
pow2-requires c = omega arith

pub step-root-requires : goal.step-root-requires
step-root-requires c = let b = c.before in rw c.pow2.ensures (first-input _ _ _ b.requires b.if-k-eq1.false)

pub loop-root-init : goal.loop-root-init
loop-root-init c =
    let b = c.before.before in
    begun _ _ _ b.requires b.if-k-eq1.false _ (rw c.pow2.ensures at c.step-root.ensures)

pub is_above-requires : goal.is_above-requires
is_above-requires c = let b = c.before.before.before in record { stepwise = stepwise _ _ _ b.requires b.if-k-eq1.false; r_bound = c.loop-root.invariant.small }

-- the root is passed
above : (c : In-loop-root) → let a = c.args in
    a.limit < c.loop-root.root ^ a.k
above c = ltb-true _ _ (tested c.is_above.ensures c.loop-root-test.true)

pub step-root-requires-in-loop-root : goal.step-root-requires-in-loop-root
step-root-requires-in-loop-root c =
    let l = c.before.before in
    let b = l.before.before.before in
    next-input _ _ _ b.requires b.if-k-eq1.false _ l.loop-root.invariant (above c)

pub loop-root-smaller : goal.loop-root-smaller
loop-root-smaller c =
    let l = c.before.before.before in
    let b = l.before.before.before in
    rw c.step-root-in-loop-root.ensures (closer _ _ _ b.requires b.if-k-eq1.false _ l.loop-root.invariant (above c.before))

pub loop-root-preserved : goal.loop-root-preserved
loop-root-preserved c =
    let l = c.before.before.before in
    let b = l.before.before.before in
    again _ _ _ b.requires b.if-k-eq1.false _ l.loop-root.invariant (above c.before) _ c.step-root-in-loop-root.ensures

pub returns : goal.returns
returns c =
    let l = c.before.before in
    let pre = l.requires in
    root-found _ _ pre.k-pos _ pre.limit-small
    record { low = ltb-false _ _ (tested c.is_above.ensures c.loop-root-test.false); high = l.loop-root.invariant.high }
