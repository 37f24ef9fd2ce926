-- `evaluating::evaluate_batch` meets its contract: what is tried before any word, then the words, then the output.
use Rattle.std.specs.Prelude.{Ok, Err}
use mathlib.Core.Path.{◌≡◌, refl, sym, ap, ◌∙◌}
use mathlib.Core.List.{List, ◌++◌, map}
use Prim.Native.Nat.{ℕ}
use lib.IntN.{ℤ}
use lib.ListN.{length, drop, length-map}
use Rattle.std.proofs.lemmas.Result.{err_from_is_err_and}
use Rattle.refusal.specs.declared.Cause.{Cause}
use Rattle.design.specs.declared.Design.{Design}
use Rattle.tables.specs.Sum.{word_at}
use Rattle.evaluating.specs.declared.BatchRefusal.{BatchRefusal}
use Rattle.evaluating.specs.Batch.{
  Batched,
  refused_at,
  room_verdict,
  batch_below,
  place_verdict,
  batch_answer,
  output_left,
  output_after,
  told_by,
  batch_told,
}
use Rattle.evaluating.proofs.BatchLaws.{batch-passed, room-tells}
use Rattle.evaluating.proofs.BatchTold.{batch-told}
use Rattle.evaluating.proofs.evaluate_batch.Goals as goal

-- The answer and the output by the verdicts.
module _ (d : Design) (initial : List ℕ) (offsets : List ℤ) (words output : List ℕ) where
  -- what is promised of an answer and of what it leaves
  abbrev Promised : Batched → List ℕ → Type 0
  Promised r left =
      (r ≡ batch_answer d initial offsets words (length output))
      × (left ≡ output_after d initial offsets words output)
      × (told_by r ≡ batch_told d initial offsets words (length output))

  answered : (r : Batched) (left : List ℕ) → batch_answer d initial offsets words (length output) ≡ r
      → left ≡ output_left r (map (word_at d initial offsets) words) output → Promised r left
  unfolding output_after
  answered r left e l = (sym e, rw e l, ap told_by (sym e) ∙ batch-told d initial offsets words (length output))

  room-refused : (cause : Cause) → room_verdict d initial offsets (length words) (length output) ≡ Err cause
      → Promised (refused_at 0 cause) output
  unfolding batch_answer
  room-refused cause e = answered (refused_at 0 cause) output (rw e) refl

  module _ (room : room_verdict d initial offsets (length words) (length output) ≡ Ok tt) where
    word-refused : (refusal : BatchRefusal) → batch_below (length words) (place_verdict d initial offsets words) ≡ Err refusal
        → Promised (Err refusal) output
    unfolding batch_answer
    word-refused refusal e = answered (Err refusal) output (rw (room, e)) refl

    accepted : (count : ℕ) (left : List ℕ) → batch_below (length words) (place_verdict d initial offsets words) ≡ Ok count
        → left ≡ map (word_at d initial offsets) words ++ drop (length words) output → Promised (Ok count) left
    unfolding batch_answer
    accepted count left counted left_is = answered (Ok count) left (rw room counted) (rw length-map left_is)

pub returns-in_err-set : goal.returns-in_err-set
returns-in_err-set c =
    let r = err_from_is_err_and c.from_residual.result c.from_residual.ensures.1 in
    let p = room-refused _ _ _ _ _ _ (sym c.in_err-set.ensures.verdict) in
    rw (r.1, r.2) (record { answer = p.0; contents = p.1; told = p.2 })

pub returns-in_err-count : goal.returns-in_err-count
returns-in_err-count c =
    let r = err_from_is_err_and c.from_residual-in_err-count.result c.from_residual-in_err-count.ensures.1 in
    let kept = c.in_ok-set.ensures.kept in
    let e = rw (kept.0, kept.1, kept.2) at c.in_err-count.ensures in
    let p = word-refused _ _ _ _ _ (sym c.in_ok-set.ensures.verdict) _ (sym e) in
    rw (r.1, r.2) (record { answer = p.0; contents = p.1; told = p.2 })

pub write_words-requires : goal.write_words-requires
write_words-requires c =
    let tells = room-tells _ _ _ _ _ (sym c.in_ok-set.ensures.verdict) in
    record { by_index = batch-passed _ _ _ (sym c.in_ok-count.ensures); words_in_bounds = tells.1 }

pub returns : goal.returns
returns c =
    let kept = c.in_ok-set.ensures.kept in
    let p = accepted _ _ _ _ _ (sym c.in_ok-set.ensures.verdict) _ _ (sym (rw (kept.0, kept.1, kept.2) at c.in_ok-count.ensures))
    (rw (kept.0, kept.1, kept.2) at c.write_words.ensures) in
    record { answer = p.0; contents = p.1; told = p.2 }
