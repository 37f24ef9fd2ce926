-- `design::LegalDesign::table_budget` meets its contract. The product of the two powers is D_i, below 2^w, and there is room for its product
-- with the largest spread.
use mathlib.Core.Path.{◌≡◌}
use Prim.Native.Nat.{ℕ, ◌-◌, ◌*◌, ◌^◌}
use native.Mathlib.Nat.{lt_trans, lt_of_le_of_lt}
use native.Mathlib.Omega.{arith}
use lib.Dec.{lit<}
use lib.Pow.{pow_pos}
use Rattle.values.specs.declared.slopes.LargestSlopes.{LargestSlopes}
use Rattle.values.specs.Slopes.{largest_slopes}
use Rattle.design.specs.declared.Pair.{Pair}
use Rattle.design.specs.declared.Design.{Design}
use Rattle.design.specs.Cut.{a_of, row, fraction_bits, pair_at, position}
use Rattle.design.specs.Budget.{reach, table_budget}
use Rattle.design.proofs.LegalLaws.{limits, bits-end}
use Rattle.design.proofs.BudgetLaws.{reach-small, table-budget-small}
use Rattle.design.proofs.LegalDesign.table_budget.Goals as goal
use Rattle.design.proofs.LegalDesign.table_budget.Goals.{After-pow2-2}

-- the factors that the calls give, as the definition has them
module _ (d : Design) (i at high low : ℕ) (pair : Pair) (place : at ≡ position d i) (pair_is : pair ≡ pair_at d i)
    (high_is : high ≡ 2 ^ pair.b) (low-is : low ≡ 2 ^ at) where
  reach-is : (high - 1) * low ≡ reach d i
  unfolding reach
  reach-is = rw (high_is, low-is, place, pair_is)

  budget-is : (slopes : LargestSlopes)
      → slopes ≡ largest_slopes (row d) d.w (fraction_bits d) (a_of d i) → (high - 1) * low * slopes.spread ≡ table_budget d i
  unfolding table_budget
  budget-is slopes slopes-are = rw (reach-is, slopes-are)

pub pair-pair-requires : goal.pair-pair-requires
pair-pair-requires c = c.requires.0

pub pow2-requires : goal.pow2-requires
pow2-requires c =
    let e = c.args in
    rw c.pair-pair.ensures (omega (arith, (limits _ e.self.legal).table _ c.requires.0))

pub overflow_sub-result : goal.overflow_sub-result
overflow_sub-result c = rw c.pow2.ensures (pow_pos _)

pub pow2-requires-2 : goal.pow2-requires-2
pow2-requires-2 c =
    let e = c.args in
    omega (arith, c.requires.1, bits-end _ (limits _ e.self.legal) _ c.requires.0, (limits _ e.self.legal).widths)

-- the product of this call
product : (c : After-pow2-2) → let s = c.before.before.before.before in
    (c.pow2.result - 1) * c.pow2-2.result * c.table_slopes-slopes.result.spread ≡ table_budget s.args.self.design s.args.i
product c =
    let slopes = c.before.before in
    budget-is _ _ _ _ _ _ slopes.requires.1 slopes.pair-pair.ensures c.pow2.ensures
    c.pow2-2.ensures _ slopes.table_slopes-slopes.ensures

pub returns : goal.returns
returns c = product c.before

pub overflow_mul-result : goal.overflow_mul-result
overflow_mul-result c =
    let pair = c.before.before.before in
    let e = c.args in
    rw (reach-is _ _ _ _ _ _ c.requires.1 pair.pair-pair.ensures c.pow2.ensures c.pow2-2.ensures)
    (record { fits = lt_trans (reach-small _ (limits _ e.self.legal) _ c.requires.0) (lit< tt) })

pub overflow_mul-result-2 : goal.overflow_mul-result-2
overflow_mul-result-2 c =
    let e = c.args in
    rw (product c.before) (record { fits = lt_of_le_of_lt (table-budget-small _ (limits _ e.self.legal) _ c.requires.0) (lit< tt) })
