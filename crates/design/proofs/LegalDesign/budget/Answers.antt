-- `design::LegalDesign::budget` meets its contract: after n turns `sum` is the budget of the first n tables, and `position` is p_n.
use mathlib.Core.Path.{◌≡◌, refl, sym, ap, ap₂, ◌∙◌}
use Prim.Native.Nat.{◌+◌}
use native.Mathlib.Omega.{arith}
use Rattle.general.specs.Below.{sum_below}
use Rattle.general.proofs.Sums.{sum-next}
use Rattle.design.specs.declared.Pair.{Pair}
use Rattle.design.specs.Cut.{b_of}
use Rattle.design.specs.Cut as Cut
use Rattle.design.specs.Budget.{table_budget, budget}
use Rattle.design.proofs.LegalLaws.{limits, bits-end}
use Rattle.design.proofs.BudgetLaws.{table-budget-small}
use Rattle.design.proofs.LegalDesign.budget.Goals as goal

pub loop-i-init : goal.loop-i-init
unfolding sum_below Cut.position
loop-i-init c = record { sum_is = refl; place = refl; within = omega arith; small = omega arith }

pub table_budget-sum-requires : goal.table_budget-sum-requires
table_budget-sum-requires c = (c.loop-i-test.true, c.loop-i.invariant.place)

pub overflow_add-sum : goal.overflow_add-sum
overflow_add-sum c =
    omega (
      arith,
      c.table_budget-sum.ensures,
      table-budget-small _ (limits _ c.args.self.legal) _ c.loop-i-test.true,
      (limits _ c.args.self.legal).m-high,
    )

pub pair-position-requires : goal.pair-position-requires
pair-position-requires c = c.loop-i-test.true

pub overflow_add-position : goal.overflow_add-position
overflow_add-position c =
    let b = c.before.before.before in
    let l = limits _ b.args.self.legal in
    rw (c.pair-position.ensures, b.loop-i.invariant.place)
    (omega (arith, bits-end _ l _ b.loop-i-test.true, l.table _ b.loop-i-test.true, l.alpha-high, l.widths.room.w-small))

pub loop-i-smaller : goal.loop-i-smaller
loop-i-smaller c = omega arith

pub loop-i-preserved : goal.loop-i-preserved
unfolding Cut.position
loop-i-preserved c =
    let b = c.before.before.before in
    let inv = b.loop-i.invariant in
    record {
      sum_is = ap₂ ◌+◌ inv.sum_is c.table_budget-sum.ensures ∙ sym (sum-next _ (table_budget _));
      place = ap₂ ◌+◌ inv.place (ap (λ (p : Pair). p.b) c.pair-position.ensures) ∙ sym (sum-next _ (b_of _));
      within = omega arith;
      small = omega (
        arith,
        c.table_budget-sum.ensures,
        table-budget-small _ (limits _ b.args.self.legal) _ b.loop-i-test.true,
        inv.small,
      );
    }

pub overflow_add-result : goal.overflow_add-result
overflow_add-result c = omega arith

pub overflow_mul-result : goal.overflow_mul-result
overflow_mul-result c = omega arith

pub overflow_add-result-2 : goal.overflow_add-result-2
overflow_add-result-2 c = omega (arith, (limits _ c.args.self.legal).m-high)

pub returns : goal.returns
unfolding budget
returns c =
    let e : c.loop-i.i ≡ c.args.self.design.m = omega arith in
    rw (rw e at c.loop-i.invariant.sum_is)
