-- `values::widths::width_verdict` meets its contract: a refusal of kind, w or q stands, and the guard bits are judged after these pass.
use Rattle.std.specs.Prelude.{Ok, Err}
use mathlib.Core.Path.{◌≡◌, sym, ◌∙◌}
use mathlib.Core.Bool.{false}
use mathlib.Core.List.{[], ◌∷◌}
use borrow.Author.Tests.{lt-ltb, le-ltb}
use Prim.Native.Nat.{ℕ}
use Rattle.std.proofs.lemmas.Result.{err_from_is_err_and}
use Rattle.general.proofs.Tests.{tested}
use Rattle.refusal.specs.declared.Cause.{Cause}
use Rattle.refusal.specs.Verdict.{Verdict}
use Rattle.refusal.specs.Checks.{verdict, outside}
use Rattle.refusal.proofs.Checks.{verdict-append}
use Rattle.values.specs.declared.widths.Limits.{Limits}
use Rattle.values.specs.Widths.{function_checks, guard_check, width_checks}
use Rattle.values.proofs.widths.width_verdict.Goals as goal
use Rattle.values.proofs.widths.width_verdict.Goals.{Else-outside, In_ok-function_verdict}

module _ (limits : Limits) (kind w q g : ℕ) where
  refused : (cause : Cause) → verdict (function_checks limits kind w q) ≡ Err cause
      → Err cause ≡ verdict (width_checks limits kind w q g)
  unfolding width_checks
  refused cause e = sym (verdict-append (function_checks limits kind w q) (guard_check limits q g ∷ []) ∙ rw e)

  module _ (passed : verdict (function_checks limits kind w q) ≡ (Ok tt)) where
    guard : (v : Verdict) → verdict (guard_check limits q g ∷ []) ≡ v → v ≡ verdict (width_checks limits kind w q g)
    unfolding width_checks
    guard v e = sym (verdict-append (function_checks limits kind w q) (guard_check limits q g ∷ []) ∙ rw passed e)

-- kind, w and q passed, and g lies within its span
passed : (c : In_ok-function_verdict) → let a = c.args in
    verdict (function_checks a.limits a.kind a.w a.q) ≡ (Ok tt)
passed c = sym c.function_verdict.ensures ∙ c.in_ok-function_verdict.was

g-passed : (c : Else-outside) → let a = c.args in
    outside a.limits.g.0 a.limits.g.1 a.g ≡ false
g-passed c = tested c.outside.ensures c.if-outside.false

pub returns-in_err-function_verdict : goal.returns-in_err-function_verdict
returns-in_err-function_verdict c =
    let p = err_from_is_err_and c.from_residual.result c.from_residual.ensures.1 in
    rw (p.1, p.2) (refused _ _ _ _ _ _ (sym c.function_verdict.ensures ∙ c.in_err-function_verdict.was))

pub returns-then-outside : goal.returns-then-outside
returns-then-outside c = guard _ _ _ _ _ (passed c.before.before) _ (rw (tested c.outside.ensures c.if-outside.true))

pub returns-then-limits-q : goal.returns-then-limits-q
returns-then-limits-q c =
    let g = c.before.before in
    guard _ _ _ _ _ (passed g.before.before) _ (rw (g-passed g, lt-ltb _ _ c.if-limits-q.true))

pub returns : goal.returns
returns c =
    let g = c.before.before in
    guard _ _ _ _ _ (passed g.before.before) _ (rw (g-passed g, le-ltb _ _ c.if-limits-q.false))
