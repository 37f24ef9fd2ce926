-- Laws of the check's search, and what its answer means.
use Rattle.std.specs.Prelude.{None, Some, Result, Ok}
use mathlib.Core.Path.{◌≡◌, refl, sym, ap, ◌∙◌}
use mathlib.Core.Bool.{Bool, true, false, not, true≢false}
use mathlib.Core.List.{List}
use mathlib.Core.Logic.{◌⊎◌, inl, inr, ⊎_elim}
use Prim.Native.Nat.{ℕ, zero, suc, ◌^◌, ◌<◌}
use native.Mathlib.Nat.{le_step, le_refl, not-suc-le-zero}
use native.Mathlib.Omega.{arith}
use lib.IntN.{ℤ}
use borrow.Author.Tests.{not-true}
use Rattle.general.proofs.Tests.{both, both_so}
use Rattle.general.proofs.Sums.{below_suc}
use Rattle.refusal.specs.declared.Cause.{Cause}
use Rattle.values.proofs.FaithfulLaws.{faithful-test, faithful-tested}
use Rattle.design.specs.declared.Design.{Design}
use Rattle.checking.specs.Check.{Finding, faithful_at, finding_below, check_verdict, check_answer, FaithfulWord, CheckMeans}

-- All words below n are faithful,
pub check-all : (n : ℕ) (test : ℕ → Bool) → ((x : ℕ) → x < n → test x ≡ true) → finding_below n test ≡ None
unfolding finding_below
check-all zero test all = refl
check-all (suc n) test all = rw (check-all n test (λ x h. all x (le_step h)), all n (le_refl _)) refl

-- or x is the lowest that is not.
pub check-bad : (n x : ℕ) (test : ℕ → Bool) → x < n → ((i : ℕ) → i < x → test i ≡ true) → test x ≡ false
    → finding_below n test ≡ Some x
unfolding finding_below
check-bad zero x test h below bad = absurd (not-suc-le-zero h)
check-bad (suc n) x test h below bad =
    below_suc h (λ at. rw (← at, check-all x test below, bad) refl) (λ before. rw (check-bad n x test before below bad) refl)

-- x is the lowest number below n for which the test fails.
pub record Lowest (n : ℕ) (test : ℕ → Bool) (x : ℕ) : Type 0 where
  pub inside : x < n
  pub fails : test x ≡ false
  pub below : (i : ℕ) → i < x → test i ≡ true

-- One of the two is so.
pub all-or-lowest : (n : ℕ) (test : ℕ → Bool) → ((x : ℕ) → x < n → test x ≡ true) ⊎ ((x : ℕ) × Lowest n test x)
all-or-lowest zero test = inl (λ x h. absurd (not-suc-le-zero h))
all-or-lowest (suc n) test = ⊎_elim more (λ l. inr (l.0, later l.1)) (all-or-lowest n test)
  where
    later : {x : ℕ} → Lowest n test x → Lowest (suc n) test x
    later l = record { inside = le_step l.inside; fails = l.fails; below = l.below }

    more : ((x : ℕ) → x < n → test x ≡ true) → ((x : ℕ) → x < suc n → test x ≡ true) ⊎ ((x : ℕ) × Lowest (suc n) test x)
    more all = here (test n) refl
      where
        here : (b : Bool) → test n ≡ b → ((x : ℕ) → x < suc n → test x ≡ true) ⊎ ((x : ℕ) × Lowest (suc n) test x)
        here true e = inl (λ x h. below_suc h (λ at. rw at e) (all x))
        here false e = inr (n, record { inside = le_refl _; fails = e; below = all })

-- The findings are told apart.
not-both : {x : ℕ} → ◌≡◌ {A = Finding} None (Some x) → ⊥
not-both e = let z : ◌≡◌ {A = ℕ} 0 1 = cc in absurd (omega arith)

same_word : {x y : ℕ} → ◌≡◌ {A = Finding} (Some y) (Some x) → y ≡ x
same_word e = cc

-- Read back from what is found among the words below n
module _ (n : ℕ) (test : ℕ → Bool) where
  pub all_told : finding_below n test ≡ None → (x : ℕ) → x < n → test x ≡ true
  all_told e =
      ⊎_elim (λ all. all) (λ l. absurd (not-both (sym e ∙ check-bad n l.0 test l.1.inside l.1.below l.1.fails)))
      (all-or-lowest n test)

  pub lowest-told : (x : ℕ) → finding_below n test ≡ Some x → Lowest n test x
  lowest-told x e =
      ⊎_elim (λ all. absurd (not-both (sym (check-all n test all) ∙ e)))
      (λ l. rw (← same_word (sym (check-bad n l.0 test l.1.inside l.1.below l.1.fails) ∙ e)) l.1)
      (all-or-lowest n test)

module _ (d : Design) (initial : List ℕ) (offsets : List ℤ) (x : ℕ) where
  pub word_test : faithful_at d initial offsets x ≡ true → FaithfulWord d initial offsets x
  unfolding faithful_at
  word_test e =
      let parts = both _ _ e in
      record { has_word = not-true _ parts.0; faithful = faithful-test _ _ _ _ _ parts.1 }

  pub word-tested : FaithfulWord d initial offsets x → faithful_at d initial offsets x ≡ true
  unfolding faithful_at
  word-tested f = both_so _ _ (ap not f.has_word) (faithful-tested _ _ _ _ _ f.faithful)

  -- a word that fails is one that has no faithful word
  pub word-failed : faithful_at d initial offsets x ≡ false → FaithfulWord d initial offsets x → ⊥
  word-failed e f = true≢false (sym (word-tested f) ∙ e)

-- Where the refusals pass, the answer is that of the search.
pub check-searches : (d : Design) (initial : List ℕ) (offsets : List ℤ) → check_verdict d initial offsets ≡ (Ok tt)
    → check_answer d initial offsets ≡ Ok (finding_below (2 ^ d.w) (faithful_at d initial offsets))
unfolding check_answer
check-searches d initial offsets passed = rw passed refl

same_values : {finding other : Finding} → ◌≡◌ {A = Result Finding Cause} (Ok finding) (Ok other) → finding ≡ other
same_values e = cc

test-fails : (t : Bool) → (t ≡ true → ⊥) → t ≡ false
test-fails true h = absurd (h refl)
test-fails false h = refl

pub check-means : (d : Design) (initial : List ℕ) (offsets : List ℤ) → check_verdict d initial offsets ≡ (Ok tt)
    → CheckMeans d initial offsets
check-means d initial offsets passed =
    record {
      says-faithful = λ e x h. word_test d initial offsets x (all_told n test (given e) x h);
      is-faithful = λ all. said (check-all n test (λ x h. word-tested d initial offsets x (all x h)));
      names = λ x e.
          let l = lowest-told n test x (given e) in
          (l.inside, word-failed d initial offsets x l.fails, λ i h. word_test d initial offsets i (l.below i h));
      is-named = λ x h bad below.
          said (check-bad n x test h (λ i k. word-tested d initial offsets i (below i k))
          (test-fails (test x) (λ e. bad (word_test d initial offsets x e))));
      answers = ⊎_elim (λ all. inl (said (check-all n test all)))
          (λ l. inr (l.0, said (check-bad n l.0 test l.1.inside l.1.below l.1.fails)))
          (all-or-lowest n test);
    }
  where
    n : ℕ
    n = 2 ^ d.w

    test : ℕ → Bool
    test = faithful_at d initial offsets

    searched : check_answer d initial offsets ≡ Ok (finding_below n test)
    searched = check-searches d initial offsets passed

    given : {finding : Finding} → check_answer d initial offsets ≡ Ok finding → finding_below n test ≡ finding
    given e = same_values (sym searched ∙ e)

    said : {finding : Finding} → finding_below n test ≡ finding → check_answer d initial offsets ≡ Ok finding
    said e = searched ∙ ap (λ (finding : Finding). Ok finding) e
