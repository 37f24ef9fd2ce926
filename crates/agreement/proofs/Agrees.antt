-- Counts and check agree.
use Rattle.std.specs.Prelude.{Ok, Err, None}
use mathlib.Core.Path.{◌≡◌, refl}
use mathlib.Core.List.{List}
use mathlib.Core.Logic.{◌↔◌}
use Prim.Native.Nat.{ℕ, ◌+◌, ◌^◌, ◌<◌}
use native.Mathlib.Omega.{arith}
use borrow.Author.Tests.{eqb-false, ne_eqb}
use lib.IntN.{ℤ}
use Rattle.general.proofs.Sums.{none-counted, count_none}
use Rattle.refusal.specs.Verdict.{Verdict}
use Rattle.refusal.specs.Told.{told, number_told}
use Rattle.refusal.proofs.Answers.{answer-given}
use Rattle.design.specs.declared.Design.{Design}
use Rattle.design.proofs.LegalLaws.{limits, lawful}
use Rattle.tables.proofs.SetLaws.{usable}
use Rattle.checking.specs.Check.{check_verdict, check_answer, check_told, FaithfulWord}
use Rattle.checking.proofs.CheckLaws.{check-means}
use Rattle.counting.specs.declared.Class.{Class}
use Rattle.counting.specs.declared.Counts.{Counts}
use Rattle.counting.specs.Count.{rank_of, is_class, class_at, count_of, counts_below, count_verdict, count_answer, count_told}
use Rattle.counting.proofs.CountLaws as CountLaws
use Rattle.agreement.specs.Agreement.{Agreement}
use Rattle.agreement.proofs.Landing.{up-to-high, lands, zero-low, faithful-class, class-faithful}

-- The number that is told goes by the verdict alone.
same_number : {A B : Type 0} (v : Verdict) (a : A) (b : B) → number_told (told v a) ≡ number_told (told v b)
same_number (Ok tt) a b = refl
same_number (Err cause) a b = refl

-- No input is in a class exactly where its count is 0.
module _ (class : Class) (n : ℕ) (classes : ℕ → Class) where
  none_in : count_of class n classes ≡ 0 → (x : ℕ) → x < n → rank_of (classes x) ≡ rank_of class → ⊥
  unfolding count_of
  none_in e x h = eqb-false _ _ (none-counted n (λ x. is_class (classes x) class) e x h)

  in-none : ((x : ℕ) → x < n → rank_of (classes x) ≡ rank_of class → ⊥) → count_of class n classes ≡ 0
  unfolding count_of
  in-none other = count_none n (λ x. is_class (classes x) class) (λ x h. ne_eqb _ _ (other x h))

module _ (d : Design) (initial : List ℕ) (offsets : List ℤ) where
  abbrev classes : ℕ → Class
  classes = class_at d initial offsets

  abbrev counts : Counts
  counts = counts_below (2 ^ d.w) classes

  -- Every word is faithful exactly where none is out of range, too low or too high.
  zero-counts : ((x : ℕ) → x < 2 ^ d.w → FaithfulWord d initial offsets x)
      → (counts.outside ≡ 0) × (counts.low ≡ 0) × (counts.high ≡ 0)
  unfolding counts_below
  zero-counts all = (
    in-none Class.Outside (2 ^ d.w) classes (λ x h e. omega (arith, (faithful-class d initial offsets x (all x h)).0)),
    in-none Class.Low (2 ^ d.w) classes (λ x h e. omega (arith, (faithful-class d initial offsets x (all x h)).1)),
    in-none Class.High (2 ^ d.w) classes (λ x h e. omega (arith, (faithful-class d initial offsets x (all x h)).1)),
  )

  adds-up : counts.outside + counts.nearest + counts.faithful + counts.low + counts.high ≡ 2 ^ d.w
  unfolding counts_below
  adds-up = CountLaws.adds-up classes (2 ^ d.w)

  all-faithful : check_verdict d initial offsets ≡ (Ok tt) → (counts.outside ≡ 0) × (counts.low ≡ 0) × (counts.high ≡ 0)
      → (x : ℕ) → x < 2 ^ d.w → FaithfulWord d initial offsets x
  unfolding counts_below check_verdict
  all-faithful passed zero x h =
      let not-outside = none_in Class.Outside (2 ^ d.w) classes zero.0 x h in
      let not_low = none_in Class.Low (2 ^ d.w) classes zero.1 x h in
      let not-high = none_in Class.High (2 ^ d.w) classes zero.2 x h in
      class-faithful d initial offsets x (lawful d (limits d (usable d _ _ passed).legal)) h
      (omega (arith, not-outside)) (omega (arith, up-to-high (classes x), not_low, not-high))

  exactly : check_verdict d initial offsets ≡ (Ok tt)
      → (check_answer d initial offsets ≡ Ok None) ↔ ((counts.outside ≡ 0) × (counts.low ≡ 0) × (counts.high ≡ 0))
  exactly passed =
      let means = check-means d initial offsets passed in
      (λ e. zero-counts (means.says-faithful e), λ zero. means.is-faithful (all-faithful passed zero))

pub agreement : Agreement
unfolding count_answer count_told check_told count_verdict check_verdict
agreement d initial offsets =
    record {
      lands = lands d initial offsets;
      zero-low = zero-low d initial offsets;
      refuses = same_number (check_verdict d initial offsets) _ _;
      adds-up = λ counts e. let g = answer-given (count_verdict d initial offsets) _ e in rw (← g.1) (adds-up d initial offsets);
      exactly = λ counts e. let g = answer-given (count_verdict d initial offsets) _ e in rw (← g.1) (exactly d initial offsets g.0);
    }
