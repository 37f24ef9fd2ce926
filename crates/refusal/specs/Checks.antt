-- Checks in order: the first that fails gives the refusal.
use Rattle.std.specs.Prelude.{Result, Bool, true, false, ◌||◌, List, [], ◌∷◌, ◌++◌, ℕ, ltb, length, drop, Ok, Err}
use Rattle.refusal.specs.declared.Cause.{Cause}
use Rattle.refusal.specs.Verdict.{Verdict}

-- A condition that turns an input down, and the cause that it gives.
pub record Check : Type 0 where
  pub fails : Bool
  pub cause : Cause

infix 68 ◌↝◌
abbrev pub ◌↝◌ : Bool → Cause → Check
fails ↝ cause = record { fails = fails; cause = cause }

abbrev pub refuses : Bool → Cause → Verdict → Verdict
refuses true cause later = Err cause
refuses false cause later = later

-- The verdict of a list of checks, tried from its head.
abbrev pub verdict : List Check → Verdict
verdict [] = (Ok tt)
verdict (check ∷ checks) = refuses check.fails check.cause (verdict checks)

-- What a verdict leads to: the answer where nothing was turned down, else what the cause of the refusal gives
abbrev pub if_passed : {A : Type 0} → Verdict → A → (Cause → A) → A
if_passed (Ok tt) answer refusal = answer
if_passed (Err cause) answer refusal = refusal cause

-- Whether nothing was turned down
abbrev pub passes : Verdict → Bool
passes v = if_passed v true (λ cause. false)

-- Document 01: what a call leaves in a lent buffer that it writes from the start. "Elements beyond .. are untouched", and a refusal "leaves
-- every buffer untouched".
abbrev pub leaves : {A : Type 0} → Verdict → List A → List A → List A
leaves v entries before = if_passed v (entries ++ drop (length entries) before) (λ cause. before)

-- n is not within low..high
abbrev pub outside : ℕ → ℕ → ℕ → Bool
outside low high n = ltb n low || ltb high n

-- What a call answers by the verdict of its checks: its values where nothing was turned down, else the cause
abbrev pub answer : {Values : Type 0} → Verdict → Values → Result Values Cause
answer v values = if_passed v (Ok values) Err

-- Which verdict an answer has, whatever its values are
abbrev pub verdict_of : {Values : Type 0} → Result Values Cause → Verdict
verdict_of (Ok values) = Ok tt
verdict_of (Err cause) = Err cause
