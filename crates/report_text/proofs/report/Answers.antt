-- `report_text::report` meets its contract: the refusal of the line, or the numbers of the design on it.
use mathlib.Core.Path.{◌≡◌, ◌∙◌}
use mathlib.Core.Bool.{cond}
use Prim.Native.Nat.{ℕ}
use Rattle.design.specs.declared.Design.{Design}
use lib.Dec.{ltb}
use borrow.Author.Tests.{lt-ltb, le-ltb}
use Rattle.design.specs.Budget.{budget, limit, within_limit}
use Rattle.design.proofs.LegalLaws.{limits, guard_small}
use Rattle.sizing.specs.Size.{size}
use Rattle.report_text.specs.Words.{text_of}
use Rattle.report_text.specs.Report.{line_text, design_text}
use Rattle.report_text.proofs.ReportLaws.{refused-line, legal-line, passed-line}
use Rattle.report_text.proofs.report.Goals as goal
use Rattle.report_text.proofs.report.Goals.{then-admitted, else-admitted}

-- The numbers that the calls give make the design's text.
text-is : (d : Design) (b l n : ℕ) → b ≡ budget d → l ≡ limit d → n ≡ cond (ltb b l) (size d) 0
    → text_of (line_text b l n (ltb b l)) ≡ text_of (design_text d)
unfolding design_text within_limit
text-is d b l n b-is l-is n-is = rw (n-is, b-is, l-is)

pub returns-in-Err : goal.returns-in-Err
returns-in-Err c = c.refused.ensures ∙ refused-line _ _ c.in-Err.ensures

pub invariant_of-legal : goal.invariant_of-legal
invariant_of-legal c = record { legal = legal-line _ _ c.in-Ok.ensures }

pub limit-limit-requires : goal.limit-limit-requires
limit-limit-requires c = guard_small _ (limits _ (legal-line _ _ c.in-Ok.ensures))

pub returns : goal.returns
returns c =
    let d = c.in-Ok.design in
    let bits-is : c.if-admitted.bits ≡ cond (ltb c.budget-budget.result c.limit-limit.result) (size d) 0 =
    elim c.if-admitted.branch [
      | then-admitted w ↦ w.bits-is ∙ rw (lt-ltb _ _ w.if-admitted.true) w.size_of-bits.ensures
      | else-admitted w ↦ w.bits-is ∙ rw (le-ltb _ _ w.if-admitted.false)
    ] in
    c.measured.ensures ∙ text-is d _ _ _ c.budget-budget.ensures c.limit-limit.ensures bits-is ∙ passed-line _ d c.in-Ok.ensures
