-- What a batch's answer tells: the number of the first check, of all in their order, that fails, with the place of the lowest bad word, or
-- how many words there are.
use Rattle.std.specs.Prelude.{Ok, Err}
use mathlib.Core.Path.{◌≡◌, refl, sym, ap, ◌∙◌}
use mathlib.Core.Bool.{cond, ◌&&◌}
use mathlib.Core.List.{List, [], ◌∷◌, ◌++◌}
use Prim.Native.Nat.{ℕ, zero, suc, ◌<◌}
use native.Mathlib.Nat.{le_refl, le_step}
use native.Mathlib.Omega.{arith}
use lib.Dec.{eqb}
use borrow.Author.Tests.{eq-eqb, ne_eqb}
use lib.IntN.{ℤ}
use lib.ListN.{length, get_or}
use Rattle.refusal.specs.Verdict.{Verdict}
use Rattle.refusal.specs.Numbers.{number_of}
use Rattle.refusal.specs.Checks.{Check, verdict, passes}
use Rattle.refusal.specs.Told.{accepted, refused, told_at}
use Rattle.refusal.proofs.Checks.{after, verdict-append}
use Rattle.design.specs.declared.Design.{Design}
use Rattle.tables.specs.Set.{set_checks}
use Rattle.evaluating.specs.Evaluate.{word_checks}
use Rattle.evaluating.specs.Batch.{
  Batched,
  output_check,
  room_verdict,
  with_word,
  batch_below,
  place_verdict,
  after_room,
  batch_answer,
  checks_below,
  batch_verdict,
  told_by,
  passing,
  place_if,
  batch_told,
}

-- The refusal of a batch's answer, without its place
abbrev refusal : Batched → Verdict
refusal (Ok count) = Ok tt
refusal (Err at) = Err at.cause

more-refusal : (before : Batched) (word : Verdict) (n : ℕ) → refusal (with_word before word n) ≡ after (refusal before) word
more-refusal (Ok count) (Ok tt) n = refl
more-refusal (Ok count) (Err cause) n = refl
more-refusal (Err at) word n = refl

-- It is that of all checks in their order.
words-refusal : (n : ℕ) (word : ℕ → List Check) → refusal (batch_below n (λ i. verdict (word i))) ≡ verdict (checks_below n word)
unfolding batch_below checks_below
words-refusal zero word = refl
words-refusal (suc n) word =
    more-refusal (batch_below n (λ i. verdict (word i))) (verdict (word n)) n
    ∙ ap (λ (v : Verdict). after v (verdict (word n))) (words-refusal n word)
    ∙ sym (verdict-append (checks_below n word) (word n))

-- The place in an answer for n words is the number of words that pass before it, and its count is n.
abbrev Placed : ℕ → ℕ → Batched → Type 0
Placed n before (Ok count) = (count ≡ n) × (before ≡ n)
Placed n before (Err at) = (at.place ≡ before) × (before < n)

more-placed : (n before : ℕ) (answer : Batched) (word : Verdict) → Placed n before answer
    → Placed (suc n) (cond (eqb before n && passes word) (suc n) before) (with_word answer word n)
more-placed n before (Ok count) (Ok tt) p = rw (eq-eqb before n p.1) (refl, refl)
more-placed n before (Ok count) (Err cause) p = rw (eq-eqb before n p.1) (sym p.1, rw p.1 (le_refl _))
more-placed n before (Err at) word p = rw (ne_eqb before n (λ e. omega (arith, p.1))) (p.0, le_step p.1)

words_placed : (n : ℕ) (word : ℕ → Verdict) → Placed n (passing n word) (batch_below n word)
unfolding batch_below passing
words_placed zero word = (refl, refl)
words_placed (suc n) word = more-placed n (passing n word) (batch_below n word) (word n) (words_placed n word)

placed-told : (n before : ℕ) (room : Verdict) (answer : Batched) → Placed n before answer
    → told_by (after_room room answer) ≡ told_at (after room (refusal answer)) (place_if room before) n
placed-told n before (Err cause) answer p = refl
placed-told n before (Ok tt) (Ok count) p = ap accepted p.0
placed-told n before (Ok tt) (Err at) p = ap (refused (number_of at.cause)) p.0

pub batch-told : (d : Design) (initial : List ℕ) (offsets : List ℤ) (words : List ℕ) (output : ℕ)
    → told_by (batch_answer d initial offsets words output) ≡ batch_told d initial offsets words output
unfolding batch_answer batch_verdict room_verdict place_verdict batch_told
batch-told d initial offsets words output =
    let word : ℕ → List Check = λ n. word_checks d initial offsets (get_or words n 0) in
    let n = length words in
    let room = room_verdict d initial offsets n output in
    let place = place_if room (passing n (place_verdict d initial offsets words)) in
    placed-told n (passing n (place_verdict d initial offsets words)) room _ (words_placed n (place_verdict d initial offsets words))
    ∙ ap (λ (v : Verdict). told_at v place n)
    (ap (after room) (words-refusal n word)
    ∙ sym (verdict-append (set_checks d (length initial) (length offsets) ++ output_check n output ∷ []) _))
