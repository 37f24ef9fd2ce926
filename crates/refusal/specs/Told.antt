-- What a call tells, in document 01's own terms: the values that an accepted input gets, or "A refusal returns its number, for a batch also
-- the place of the word (0 for all other causes)". A call answers with its values or the cause of a refusal; `told_by` gives what each of
-- the two tells, and the call promises by that definition. (A verdict, which has no values, has `verdict_number`.)
use Rattle.std.specs.Prelude.{ℕ, Result, Ok, Err}
use Rattle.refusal.specs.declared.Cause.{Cause}
use Rattle.refusal.specs.Verdict.{Verdict}
use Rattle.refusal.specs.Numbers.{number_of}
use Rattle.refusal.specs.Checks.{if_passed}

pub data Told (Values : Type 0) : Type 0 where
  accepted : Values → Told Values
  -- the number, then the place
  refused : ℕ → ℕ → Told Values

-- By the verdict of the call's checks: the values where it passes, and else its number, with this place
abbrev pub told_at : {Values : Type 0} → Verdict → ℕ → Values → Told Values
told_at verdict place values = if_passed verdict (accepted values) (λ cause. refused (number_of cause) place)

-- "0 for all other causes"
abbrev pub told : {Values : Type 0} → Verdict → Values → Told Values
told verdict values = told_at verdict 0 values

-- The number that is told; 0 where nothing is turned down
abbrev pub number_told : {Values : Type 0} → Told Values → ℕ
number_told (accepted values) = 0
number_told (refused number place) = number

-- What an answer tells: its values, or the number of the cause
abbrev pub told_by : {Values : Type 0} → Result Values Cause → Told Values
told_by (Ok values) = accepted values
told_by (Err cause) = refused (number_of cause) 0
