-- What a batch comes to, by the verdicts of its words, and how its output is written word by word.
use Rattle.std.specs.Prelude.{Ok, Err}
use mathlib.Core.Path.{◌≡◌, refl, sym, subst}
use mathlib.Core.List.{List, [], ◌∷◌, ◌++◌, map}
use Prim.Native.Nat.{ℕ, zero, suc, ◌+◌, ◌≤◌, ◌<◌}
use native.Mathlib.Nat.{le_of_eq, le_refl, le_step, not-suc-le-zero}
use native.Mathlib.Omega.{arith}
use borrow.Author.Tests.{ltb-false}
use lib.IntN.{ℤ}
use lib.ListN.{length, get_or, take, drop, set, length-map, get_or-map}
use lib.Seq.{length-take-le, take_all}
use Rattle.general.specs.Lists.{over}
use Rattle.general.proofs.Sums.{below_suc}
use Rattle.general.proofs.WritingLaws.{over-start, over-length, over-next}
use Rattle.refusal.specs.declared.Cause.{Cause}
use Rattle.refusal.specs.Verdict.{Verdict}
use Rattle.refusal.proofs.Checks.{passed-append, none-fails}
use Rattle.design.specs.declared.Design.{Design}
use Rattle.tables.specs.Inputs.{Usable}
use Rattle.tables.specs.Set.{set_checks}
use Rattle.tables.proofs.SetLaws.{usable}
use Rattle.evaluating.specs.Batch.{Batched, refused_at, output_check, room_verdict, with_word, batch_below}

-- Words that all pass are counted,
pub batch-all : (n : ℕ) (word : ℕ → Verdict) → ((i : ℕ) → i < n → word i ≡ (Ok tt)) → batch_below n word ≡ Ok n
unfolding batch_below
batch-all zero word all = refl
batch-all (suc n) word all = rw (batch-all n word (λ i h. all i (le_step h)), all n (le_refl _))

-- and the lowest that does not refuses the batch, whatever follows.
pub batch-bad : (n i : ℕ) (word : ℕ → Verdict) (cause : Cause) → i < n → ((j : ℕ) → j < i → word j ≡ (Ok tt))
    → word i ≡ Err cause → batch_below n word ≡ refused_at i cause
unfolding batch_below
batch-bad zero i word cause h all bad = absurd (not-suc-le-zero h)
batch-bad (suc n) i word cause h all bad =
    below_suc h
    (λ (at : i ≡ n). rw (← at, batch-all i word all, bad))
    (λ (below : i < n). rw (batch-bad n i word cause below all bad))

-- A batch that is counted has words that all pass.
abbrev Counted : Batched → Type 0
Counted (Ok count) = Unit {0}
Counted (Err refusal) = ⊥

both-counted : (before : Batched) (word : Verdict) (n : ℕ) → Counted (with_word before word n)
    → Counted before × (word ≡ (Ok tt))
both-counted (Ok count) (Ok tt) n c = (tt, refl)
both-counted (Ok count) (Err cause) n c = absurd c
both-counted (Err refusal) word n c = absurd c

each-passed : (n : ℕ) (word : ℕ → Verdict) → Counted (batch_below n word) → (i : ℕ) → i < n → word i ≡ (Ok tt)
unfolding batch_below
each-passed zero word c i h = absurd (not-suc-le-zero h)
each-passed (suc n) word c i h =
    let both = both-counted (batch_below n word) (word n) n c in
    below_suc h (λ (at : i ≡ n). rw at both.1) (each-passed n word both.0 i)

pub batch-passed : (n count : ℕ) (word : ℕ → Verdict) → batch_below n word ≡ Ok count
    → (i : ℕ) → i < n → word i ≡ (Ok tt)
batch-passed n count word e = each-passed n word (subst Counted (sym e) tt)

-- What a batch that passes 1 to 10 and 14 tells.
pub room-tells : (d : Design) (initial : List ℕ) (offsets : List ℤ) (words output : ℕ)
    → room_verdict d initial offsets words output ≡ (Ok tt) → Usable d (length initial) (length offsets) × (words ≤ output)
unfolding room_verdict output_check
room-tells d initial offsets words output e =
    let last = output_check words output ∷ [] in
    let lists = passed-append (set_checks d (length initial) (length offsets)) last e in
    (usable _ _ _ lists.0, ltb-false _ _ (none-fails last lists.1).0)

-- A batch's output once the first i words have been written: their images under f over what was there.
abbrev pub written : (ℕ → ℕ) → List ℕ → List ℕ → ℕ → List ℕ
written f words before i = over before 0 (take i (map f words))

module _ (f : ℕ → ℕ) (words before : List ℕ) (room : length words ≤ length before) where
  images : length (map f words) ≡ length words
  images = length-map words f

  pub written-length : (i : ℕ) → i ≤ length words → length (written f words before i) ≡ length before
  written-length i h = over-length before 0 (take i (map f words)) (omega (arith, length-take-le i (map f words) (rw images h)))

  pub written-more : (i : ℕ) → i < length words → set (written f words before i) i (f (get_or words i 0)) ≡ written f words before (i + 1)
  written-more i h = rw (← get_or-map f words i 0) (over-next before (map f words) i (f 0) (rw images h) (rw images room))

  pub written_all : written f words before (length words) ≡ map f words ++ drop (length words) before
  written_all = rw (take_all (length words) (map f words) (le_of_eq images), over-start before (map f words), images)
