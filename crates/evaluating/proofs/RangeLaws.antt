-- Sums that stay in range: an initial entry that is further from both ends of the range than the offsets together can reach.
use mathlib.Core.Path.{◌≡◌, refl, sym, ap, fun_ext, ◌∙◌}
use mathlib.Core.Bool.{Bool, true, false, cond}
use mathlib.Core.List.{List, [], ◌∷◌}
use Prim.Native.Nat.{ℕ, zero, suc, ◌+◌, ◌-◌, ◌*◌, ◌^◌, ◌≤◌, ◌<◌}
use native.Mathlib.Nat.{le_refl, le_step}
use native.Mathlib.Omega.{arith}
use borrow.Author.Tests.{ltb-true, leb-false, le-ltb, lt-leb}
use lib.Dec.{ltb, leb}
use lib.ListN.{length, get_or, take}
use lib.Seq.{length-take-le}
use Rattle.std.proofs.Common.{get_or-take}
use lib.IntN.{ℤ, pos, negsuc, sub_ℕ, ◌+ℤ◌, +ℤ_assoc, +ℤ_idr}
use lib.Signed.{mag}
use Rattle.general.specs.Below.{largest, some_below, signed_sum}
use Rattle.general.proofs.Sums.{none_below, largest-above}
use Rattle.refusal.specs.Checks.{outside, verdict}
use Rattle.refusal.proofs.Checks.{inside}
use Rattle.values.specs.Value.{word_check}
use Rattle.design.specs.declared.Design.{Design}
use Rattle.design.specs.Cut.{sum_limit, initial_word, segment_word, offset_word}
use Rattle.design.specs.Stored.{initial_count, offset_total, offset_place}
use Rattle.design.proofs.LegalLaws.{Limits}
use Rattle.design.proofs.StoredLaws.{place-in-total, from-size}
use Rattle.design.proofs.CutLaws.{segment-word-lt, offset-word-lt, initial-word-lt}
use Rattle.tables.specs.Sum.{offset_for, sum_at, sum_outside}
use Rattle.evaluating.specs.Evaluate.{word_checks}
use Rattle.evaluating.specs.Batch.{batch_below, place_verdict}
use Rattle.evaluating.specs.Range.{SumsInRange, width_answer}

-- n + z for an n that z cannot take below 0
pub record Moved (n R : ℕ) (z : ℤ) (k : ℕ) : Type 0 where
  pub is : pos n +ℤ z ≡ pos k
  pub high : k ≤ n + R
  pub low : n ≤ k + R

less : (n b : ℕ) → suc b ≤ n → sub_ℕ n (suc b) ≡ pos (n - suc b)
less n b h = go (ltb n (suc b)) refl
  where
    go : (t : Bool) → ltb n (suc b) ≡ t → cond t (negsuc (suc b - suc n)) (pos (n - suc b)) ≡ pos (n - suc b)
    go true e = absurd (omega (arith, ltb-true n (suc b) e))
    go false e = refl

moved : (n R : ℕ) (z : ℤ) → mag z < R → R ≤ n → (k : ℕ) × Moved n R z k
moved n R (pos b) small h = (n + b, record { is = refl; high = omega (arith, small); low = omega arith })
moved n R (negsuc b) small h =
    (n - suc b, record { is = less n b (omega (arith, small, h)); high = omega arith; low = omega (arith, small, h) })

-- and of an n that the sum of a few such z cannot take below 0
pub moved-by-all : (n R count : ℕ) (f : ℕ → ℤ) → ((i : ℕ) → i < count → mag (f i) < R) → count * R ≤ n
    → (k : ℕ) × Moved n (count * R) (signed_sum count f) k
unfolding signed_sum
moved-by-all n R zero f small h = (n, record { is = +ℤ_idr _; high = omega arith; low = omega arith })
moved-by-all n R (suc count) f small h =
    let before = moved-by-all n R count f (λ i below. small i (le_step below)) (omega (arith, h)) in
    let last = moved before.0 R (f count) (small count (le_refl _)) (omega (arith, before.1.low, h)) in (
      last.0,
      record {
        is = sym (+ℤ_assoc (pos n) (signed_sum count f) (f count)) ∙ ap (λ (z : ℤ). z +ℤ f count) before.1.is ∙ last.1.is;
        high = omega (arith, before.1.high, last.1.high);
        low = omega (arith, before.1.low, last.1.low);
      },
    )

module _ (d : Design) (l : Limits d) (initial : List ℕ) (offsets : List ℤ) (initial-long : initial_count d ≤ length initial)
    (offsets-long : offset_total d ≤ length offsets) where
  -- the offsets that are looked at, and the largest magnitude among them
  abbrev used : List ℤ
  used = take (offset_total d) offsets

  abbrev most-used : ℕ
  most-used = largest (length used) (λ (j : ℕ). mag (get_or used j (pos 0)))

  -- the initial entries that are
  abbrev entries : List ℕ
  entries = take (initial_count d) initial

  -- the offsets that x looks up are among those
  offset-small : (x i : ℕ) → x < 2 ^ d.w → i < d.m
      → mag (offset_for d offsets x i) < most-used + 1
  unfolding offset_for
  offset-small x i word more =
      let place = place-in-total d i _ _ more (segment-word-lt d l i x more word) (offset-word-lt d i x) in
      let place-used : (offset_place d i (segment_word d i x) (offset_word d i x)) < length used = rw (length-take-le (offset_total d) offsets offsets-long) place in
      let among = rw (get_or-take (offset_total d) offsets _ (pos 0) place) at
      (largest-above (length used) (λ (j : ℕ). mag (get_or used j (pos 0))) _ place-used) in
      rw (from-size d i (offset_word d i x)) (omega (arith, among))

  within-limit : {k limit : ℕ} → limit ≡ sum_limit d → k < limit → sum_outside d (pos k) ≡ false
  unfolding sum_outside
  within-limit {k} e h = simp (le-ltb k 0 (omega arith), lt-leb _ _ (rw e at h))

  pub sums-stay : (reach limit : ℕ) → reach ≡ d.m * (most-used + 1)
      → limit ≡ sum_limit d → reach < limit
      → some_below (length entries) (λ (A : ℕ). outside reach (limit - reach - 1) (get_or entries A 0)) ≡ false
      → SumsInRange d initial offsets
  unfolding sum_at
  sums-stay reach limit reach-is limit_is room none x word =
      let A-lt = initial-word-lt d l x word in
      let inside-entries : initial_word d x < length entries = rw (length-take-le (initial_count d) initial initial-long) A-lt in
      let between = inside reach (limit - reach - 1) (get_or initial (initial_word d x) 0)
      (rw (get_or-take (initial_count d) initial _ 0 A-lt) at
      (none_below (length entries) (λ (A : ℕ). outside reach (limit - reach - 1) (get_or entries A 0)) none (initial_word d x)
      inside-entries)) in
      let sum = moved-by-all (get_or initial (initial_word d x) 0) (most-used + 1)
      d.m (offset_for d offsets x) (λ i more. offset-small x i word more) (rw reach-is at between.0) in
      let high = rw (← reach-is) at sum.1.high in
      ap (sum_outside d) sum.1.is ∙ within-limit limit_is (omega (arith, between.1, high, room))

-- Then 12 alone decides on a word, and so on a batch.
module _ (d : Design) (initial : List ℕ) (offsets : List ℤ) (stay : SumsInRange d initial offsets) where
  width-decides : (x : ℕ) (wide : Bool) → leb (2 ^ d.w) x ≡ wide
      → verdict (word_check d.w x ∷ []) ≡ verdict (word_checks d initial offsets x)
  unfolding word_checks word_check
  width-decides x true e = rw e
  width-decides x false e = rw (e, stay x (leb-false _ _ e))

  pub width-answers : (words : List ℕ) → width_answer d.w words ≡ batch_below (length words) (place_verdict d initial offsets words)
  unfolding width_answer place_verdict
  width-answers words = ap (batch_below (length words)) (fun_ext (λ n. width-decides (get_or words n 0) _ refl))
