-- The offsets of a segment while they are written from its middle outwards, two at a time.
use mathlib.Core.Path.{◌≡◌, refl, ap, sym, ◌∙◌}
use mathlib.Core.List.{List, ◌∷◌}
use Prim.Native.Nat.{ℕ, suc, ◌+◌, ◌-◌, ◌<◌}
use native.Mathlib.Nat.{add-zero, zero-add}
use native.Mathlib.Omega.{arith}
use lib.IntN.{ℤ}
use lib.ListN.{length, set}
use Rattle.general.specs.Below.{list_below}
use Rattle.general.specs.Lists.{over}
use Rattle.general.proofs.ListLaws.{list_length, list-first, list-congruence}
use Rattle.general.proofs.WritingLaws.{run_none, run-one, over-before}
use Rattle.filling.proofs.PartLaws.{over-whole}

module _ (f : ℕ → ℤ) (before : List ℤ) where
  -- The entries of n words in a row stand at their places; with one more at either end they are those of n + 2.
  front : (m n : ℕ) → f m ∷ list_below n (λ k. f (suc m + k)) ≡ list_below (suc n) (λ k. f (m + k))
  front m n =
      sym (list-first (λ k. f (m + k)) n
      ∙ rw (add-zero, list-congruence (λ k. f (m + suc k)) (λ k. f (suc m + k)) n (λ k h. ap f (omega arith))))

  both_ends : (m n : ℕ) {table : List ℤ} → table ≡ over before (suc m) (list_below n (λ k. f (suc m + k))) → suc m + n < length before
      → set (set table (suc m + n) (f (suc m + n))) m (f m) ≡ over before m (list_below (suc (n + 1)) (λ k. f (m + k)))
  both_ends m n table_is room =
      rw (run-one (λ k. f (suc m + k)) before (suc m) n _ _ table_is refl refl room, ← front m (n + 1))
      (over-before before m (list_below (n + 1) (λ k. f (suc m + k))) (f m) (omega arith))

-- The entries of the n words on either side of the middle stand at their places, over what the segment held before.
pub record Outwards (f : ℕ → ℤ) (before table : List ℤ) (half n : ℕ) : Type 0 where
  pub so_far : table ≡ over before (half - n) (list_below (n + n) (λ k. f (half - n + k)))

module _ (f : ℕ → ℤ) (before : List ℤ) (half : ℕ) where
  pub outwards-start : Outwards f before before half 0
  outwards-start = record { so_far = run_none (λ k. f (half - 0 + k)) before _ }

  module _ (room : length before ≡ half + half) {table : List ℤ} {n : ℕ} (outwards : Outwards f before table half n) where
    -- one word more on either side
    pub outwards-next : {u v : ℤ} → n < half → u ≡ f (half + n) → v ≡ f (half - 1 - n)
        → Outwards f before (set (set table (half + n) u) (half - 1 - n) v) half (n + 1)
    outwards-next {u} {v} n-lt u-is v-is =
        let m = half - 1 - n in
        let low : half - n ≡ suc m = omega arith in
        let next : half - (n + 1) ≡ m = omega arith in
        let last : half + n ≡ suc m + (n + n) = omega arith in
        let more : n + 1 + (n + 1) ≡ suc (n + n + 1) = omega arith in
        record { so_far = rw (u-is, v-is, last, next, more) (both_ends f before m (n + n) (rw low at outwards.so_far) (omega arith)) }

    -- and all that the segment has
    pub outwards-end : n ≡ half → table ≡ list_below (half + half) f
    outwards-end e =
        let none : half - half ≡ 0 = omega arith in
        outwards.so_far
        ∙ rw (e, none, list-congruence (λ k. f (0 + k)) f (half + half) (λ k h. ap f (zero-add k)))
        (over-whole before (list_below (half + half) f) (room ∙ sym (list_length f (half + half))))
