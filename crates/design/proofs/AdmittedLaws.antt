-- Checks with 11 behind them: what they come to, by the budget and its limit.
use Rattle.std.specs.Prelude.{Ok, Err}
use mathlib.Core.Path.{◌≡◌, ◌∙◌}
use mathlib.Core.List.{List, [], ◌∷◌, ◌++◌}
use Prim.Native.Nat.{◌≤◌, ◌<◌}
use borrow.Author.Tests.{lt-ltb, le-ltb}
use Rattle.refusal.specs.declared.Cause.{Cause}
use Rattle.refusal.specs.Checks.{Check, verdict}
use Rattle.refusal.proofs.Checks.{verdict-append}
use Rattle.design.specs.declared.Design.{Design}
use Rattle.design.specs.Budget.{budget, limit, within_limit, admitted_check}

module _ (d : Design) (checks : List Check) where
  pub refused-before : (cause : Cause) → verdict checks ≡ Err cause
      → verdict (checks ++ admitted_check d ∷ []) ≡ Err cause
  refused-before cause e = verdict-append checks (admitted_check d ∷ []) ∙ rw e

  module _ (passed : verdict checks ≡ (Ok tt)) where
    pub not-admitted : limit d ≤ budget d → verdict (checks ++ admitted_check d ∷ []) ≡ Err Cause.NotAdmitted
    unfolding admitted_check within_limit
    not-admitted over = verdict-append checks (admitted_check d ∷ []) ∙ rw (passed, le-ltb _ _ over)

    pub admitted : budget d < limit d → verdict (checks ++ admitted_check d ∷ []) ≡ (Ok tt)
    unfolding admitted_check within_limit
    admitted within = verdict-append checks (admitted_check d ∷ []) ∙ rw (passed, lt-ltb _ _ within)
