-- What a verdict leads to: an answer that passes on what it tells, and what can be told from the answer.
use Rattle.std.specs.Prelude.{Result, Ok, Err}
use mathlib.Core.Path.{◌≡◌, refl}
use Prim.Native.Nat.{ℕ}
use native.Mathlib.Omega.{arith}
use Rattle.refusal.specs.declared.Cause.{Cause}
use Rattle.refusal.specs.Verdict.{Verdict}
use Rattle.refusal.specs.Numbers.{number_of}
use Rattle.refusal.specs.Checks.{if_passed, answer}
use Rattle.refusal.specs.Told.{Told, accepted, refused, told, told_by}

-- A call's answer tells what is to be told.
pub answer-told : {Values : Type 0} (v : Verdict) (values : Values) → told_by (answer v values) ≡ told v values
answer-told (Ok tt) values = refl
answer-told (Err cause) values = refl

-- and by its values, where more is told of them than they are
pub answer-told-by : {Answer Values : Type 0} (by : Result Answer Cause → Told Values) (v : Verdict) (values : Answer) (told_values : Values)
    → by (Ok values) ≡ accepted told_values → ((cause : Cause) → by (Err cause) ≡ refused (number_of cause) 0)
    → by (answer v values) ≡ told v told_values
answer-told-by by (Ok tt) values told_values accepts refuses = accepts
answer-told-by by (Err cause) values told_values accepts refuses = refuses cause

-- A part of what a verdict leads to is what the verdict leads to of the parts.
pub if-passed-part : {A B : Type 0} (part : A → B) (v : Verdict) (answer : A) (refusal : Cause → A)
    → part (if_passed v answer refusal) ≡ if_passed v (part answer) (λ cause. part (refusal cause))
if-passed-part part (Ok tt) answer refusal = refl
if-passed-part part (Err cause) answer refusal = refl

-- What holds of no refusal's answer holds only where nothing was turned down.
pub only-passed : {A : Type 0} (Holds : A → Type 0) (v : Verdict) (answer : A) (refusal : Cause → A)
    → ((cause : Cause) → Holds (refusal cause) → ⊥) → Holds (if_passed v answer refusal) → v ≡ (Ok tt)
only-passed Holds (Ok tt) answer refusal none h = refl
only-passed Holds (Err cause) answer refusal none h = absurd (none cause h)

-- An answer that is a cause comes of a verdict that is, and one that has values of a verdict that passes: they are these.
pub answer-refused : {Values : Type 0} (v : Verdict) (values : Values) {cause : Cause} → answer v values ≡ Err cause → v ≡ Err cause
answer-refused (Ok tt) values e = let z : ◌≡◌ {A = ℕ} 0 1 = cc in absurd (omega arith)
answer-refused (Err cause) values e = cc

pub answer-given : {Values : Type 0} (v : Verdict) (values : Values) {given : Values} → answer v values ≡ Ok given
    → (v ≡ Ok tt) × (values ≡ given)
answer-given (Ok tt) values e = (refl, cc)
answer-given (Err cause) values e = let z : ◌≡◌ {A = ℕ} 0 1 = cc in absurd (omega arith)
