-- The answer of the search: 1 to 3 before it, and then whether a design is found.
use Rattle.std.specs.Prelude.{None, Some, Ok, Err}
use mathlib.Core.Path.{◌≡◌}
use Prim.Native.Nat.{ℕ}
use Rattle.refusal.specs.declared.Cause.{Cause}
use Rattle.refusal.specs.Checks.{verdict}
use Rattle.values.specs.Widths.{limits_of, function_checks}
use Rattle.searching.specs.declared.SizedDesign.{SizedDesign}
use Rattle.searching.specs.Best.{smallest_of, smallest_answer}

module _ (kind w q : ℕ) where
  pub first-refused : (cause : Cause) → verdict (function_checks (limits_of kind) kind w q) ≡ Err cause
      → smallest_answer kind w q ≡ Err cause
  unfolding smallest_answer
  first-refused cause e = rw e

  module _ (passed : verdict (function_checks (limits_of kind) kind w q) ≡ Ok tt) where
    pub none-admitted : smallest_of kind w q ≡ None → smallest_answer kind w q ≡ Err Cause.NoneAdmitted
    unfolding smallest_answer
    none-admitted none = rw (passed, none)

    pub some-admitted : (best : SizedDesign) → smallest_of kind w q ≡ Some best → smallest_answer kind w q ≡ Ok best
    unfolding smallest_answer
    some-admitted best found = rw (passed, found)
