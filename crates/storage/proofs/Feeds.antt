-- Lines that are fed after others.
use Rattle.std.specs.Prelude.{Ok, Err}
use mathlib.Core.Path.{◌≡◌, refl, sym, ap, ◌∙◌}
use mathlib.Core.List.{List, [], ◌∷◌, ◌++◌, append_assoc}
use Prim.Native.Nat.{ℕ}
use Rattle.refusal.specs.Verdict.{Verdict}
use Rattle.reading.specs.ReadLine.{Session, verdict_on, after}
use Rattle.storage.specs.Feeding.{feed, kept_if, accepted, finished_by, finishes}

pub keeps-last : (v : Verdict) (first : List ℕ) (lines last : List (List ℕ))
    → kept_if v first (lines ++ last) ≡ kept_if v first lines ++ last
keeps-last (Ok tt) first lines last = refl
keeps-last (Err cause) first lines last = refl

module _ (more : List (List ℕ)) where
  pub feed-append : (lines : List (List ℕ)) (s : Session) → feed s (lines ++ more) ≡ feed (feed s lines) more
  unfolding feed
  feed-append [] s = refl
  feed-append (line ∷ lines) s = feed-append lines (after s line)

  pub accepted-append : (lines : List (List ℕ)) (s : Session)
      → accepted s (lines ++ more) ≡ accepted s lines ++ accepted (feed s lines) more
  unfolding feed accepted
  accepted-append [] s = refl
  accepted-append (line ∷ lines) s =
      ap (kept_if (verdict_on s line) line) (accepted-append lines (after s line))
      ∙ keeps-last (verdict_on s line) line (accepted (after s line) lines) _

  pub finishes-append : (lines : List (List ℕ)) (s : Session)
      → finishes s (lines ++ more) ≡ finishes s lines ++ finishes (feed s lines) more
  unfolding feed finishes
  finishes-append [] s = refl
  finishes-append (line ∷ lines) s =
      ap (◌++◌ (finished_by s line)) (finishes-append lines (after s line))
      ∙ sym (append_assoc (finished_by s line) (finishes (after s line) lines) (finishes (feed (after s line) lines) more))
