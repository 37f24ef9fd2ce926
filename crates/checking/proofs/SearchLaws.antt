-- The search from 0 upwards: what is known before word x, how it goes on, and what it comes to.
use Rattle.std.specs.Prelude.{None, Some}
use mathlib.Core.Path.{◌≡◌, refl, sym, ◌∙◌}
use mathlib.Core.Bool.{Bool, true, false}
use Prim.Native.Nat.{ℕ, ◌+◌, ◌*◌, ◌<◌}
use native.Mathlib.Nat.{not-suc-le-zero}
use native.Mathlib.Numerals.{add-one}
use native.Mathlib.Omega.{arith}
use Rattle.general.proofs.Sums.{below_suc}
use Rattle.checking.specs.Check.{Finding, finding_below}
use Rattle.checking.proofs.CheckLaws.{check-all, check-bad}

-- Every word below x is faithful, and the answer says so.
pub record Searched (test : ℕ → Bool) (answer : Finding) (x : ℕ) : Type 0 where
  pub answer-is : answer ≡ None
  pub all : (i : ℕ) → i < x → test i ≡ true

module _ (test : ℕ → Bool) where
  pub searched-none : Searched test None 0
  searched-none = record { answer-is = refl; all = λ i h. absurd (not-suc-le-zero h) }

  module _ {answer : Finding} where
    pub searched-more : {x : ℕ} → Searched test answer x → test x ≡ true → Searched test answer (x + 1)
    searched-more s e = record { answer-is = s.answer-is; all = λ i h. below_suc (rw add-one at h) (λ at. rw at e) (s.all i) }

    pub searched-all : {n : ℕ} → Searched test answer n → answer ≡ finding_below n test
    searched-all s = s.answer-is ∙ sym (check-all _ test s.all)

    pub searched-found : {n x : ℕ} → Searched test answer x → x < n → test x ≡ false
        → Some x ≡ finding_below n test
    searched-found s h e = sym (check-bad _ _ test h s.all e)

    -- an interval that is searched to its end leads to the next
    pub next-interval : (interval rests rest : ℕ) → Searched test answer (interval * rests + rest) → rest ≡ rests
        → Searched test answer ((interval + 1) * rests)
    next-interval interval rests rest s e =
        let end : interval * rests + rests ≡ (interval + 1) * rests = omega arith in
        rw (e, end) at s
