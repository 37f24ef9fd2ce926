-- Tests: what two of them come to together, and what a branch tells.
use mathlib.Core.Path.{◌≡◌, refl, sym, ◌∙◌}
use mathlib.Core.Bool.{Bool, true, false, ◌||◌, ◌&&◌, true≢false}

pub neither : (a b : Bool) → a || b ≡ false → (a ≡ false) × (b ≡ false)
neither true b e = absurd (true≢false e)
neither false b e = (refl, e)

pub both : (a b : Bool) → a && b ≡ true → (a ≡ true) × (b ≡ true)
both true b e = (refl, e)
both false b e = absurd (true≢false (sym e))

pub both_so : (a b : Bool) → a ≡ true → b ≡ true → a && b ≡ true
both_so a b e f = rw (e, f) refl

-- Two tests that hold together are one.
pub same_test : (a b : Bool) → (a ≡ true → b ≡ true) → (b ≡ true → a ≡ true) → a ≡ b
same_test true b one other = sym (one refl)
same_test false true one other = other refl
same_test false false one other = refl

-- What a branch on a call's answer tells of the test that the call promises.
pub tested : {test result answer : Bool} → result ≡ test → result ≡ answer → test ≡ answer
tested promise branch = sym promise ∙ branch
