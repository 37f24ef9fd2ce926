-- A list of checks after another: a refusal of the first list stands, and a list that passes leaves the verdict to the second.
use Rattle.std.specs.Prelude.{Ok, Err}
use mathlib.Core.Path.{◌≡◌, refl, sym, ap, ◌∙◌}
use mathlib.Core.Bool.{Bool, true, false}
use mathlib.Core.List.{List, [], ◌∷◌, ◌++◌}
use Prim.Native.Nat.{ℕ, ◌≤◌}
use native.Mathlib.Omega.{arith}
use borrow.Author.Tests.{ltb-false, le-ltb}
use lib.Dec.{ltb}
use Rattle.general.proofs.Tests.{neither}
use Rattle.refusal.specs.declared.Cause.{Cause}
use Rattle.refusal.specs.Verdict.{Verdict}
use Rattle.refusal.specs.Checks.{Check, verdict, refuses, outside}

abbrev pub after : Verdict → Verdict → Verdict
after (Ok tt) later = later
after (Err cause) later = Err cause

after-refuses : (fails : Bool) (cause : Cause) (v later : Verdict)
    → refuses fails cause (after v later) ≡ after (refuses fails cause v) later
after-refuses true cause v later = refl
after-refuses false cause v later = refl

pub verdict-append : (first second : List Check) → verdict (first ++ second) ≡ after (verdict first) (verdict second)
verdict-append [] second = refl
verdict-append (check ∷ checks) second =
    ap (refuses check.fails check.cause) (verdict-append checks second)
    ∙ after-refuses check.fails check.cause (verdict checks) (verdict second)

-- What a list that passes tells.
passed : (fails : Bool) (cause : Cause) (later : Verdict) → refuses fails cause later ≡ (Ok tt)
    → (fails ≡ false) × (later ≡ (Ok tt))
passed true cause later e = let z : ◌≡◌ {A = ℕ} 0 1 = cc in absurd (omega arith)
passed false cause later e = (refl, e)

-- no check of the list fails
abbrev pub NoneFails : List Check → Type 0
NoneFails [] = Unit {0}
NoneFails (check ∷ checks) = (check.fails ≡ false) × NoneFails checks

pub none-fails : (checks : List Check) → verdict checks ≡ (Ok tt) → NoneFails checks
none-fails [] e = tt
none-fails (check ∷ checks) e =
    let p = passed check.fails check.cause (verdict checks) e in
    (p.0, none-fails checks p.1)

both-passed : (first second : Verdict) → after first second ≡ (Ok tt)
    → (first ≡ (Ok tt)) × (second ≡ (Ok tt))
both-passed (Ok tt) second e = (refl, e)
both-passed (Err cause) second e = let z : ◌≡◌ {A = ℕ} 0 1 = cc in absurd (omega arith)

pub passed-append : (first second : List Check) → verdict (first ++ second) ≡ (Ok tt)
    → (verdict first ≡ (Ok tt)) × (verdict second ≡ (Ok tt))
passed-append first second e = both-passed (verdict first) (verdict second) (sym (verdict-append first second) ∙ e)

-- A number that is not outside lies between the two ends.
pub inside : (low high n : ℕ) → outside low high n ≡ false → (low ≤ n) × (n ≤ high)
inside low high n e = let b = neither (ltb n low) (ltb high n) e in (ltb-false n low b.0, ltb-false high n b.1)

-- and the other way round
pub not-outside : (low high n : ℕ) → low ≤ n → n ≤ high → outside low high n ≡ false
not-outside low high n from to = rw (le-ltb n low from, le-ltb high n to)
