-- Records that are fed one by one: one record more at the end, and refused ones, which do not count.
use Rattle.std.specs.Prelude.{Ok, Err}
use mathlib.Core.Path.{◌≡◌, refl, ap, ◌∙◌}
use mathlib.Core.List.{List, [], ◌∷◌, ◌++◌}
use Prim.Native.Nat.{ℕ, suc}
use Rattle.general.specs.Below.{list_below}
use Rattle.refusal.specs.declared.Cause.{Cause}
use Rattle.refusal.specs.Verdict.{Verdict}
use Rattle.design.specs.declared.Design.{Design}
use Rattle.record_reading.specs.ReadRecord.{HexSession, hex_verdict_on, hex_after}
use Rattle.storage.specs.Feeding.{kept_if}
use Rattle.storage.proofs.Feeds.{keeps-last}
use Rattle.record_storage.specs.Loading.{hex_feed, hex_accepted}
use Rattle.record_storage.specs.RecordStorage.{HexSkipped}

module _ (d : Design) where
  -- One record more
  feed-last : (texts : List (List ℕ)) (text : List ℕ) (s : HexSession)
      → hex_feed d s (texts ++ (text ∷ [])) ≡ hex_after d (hex_feed d s texts) text
  unfolding hex_feed
  feed-last [] text s = refl
  feed-last (first ∷ texts) text s = feed-last texts text (hex_after d s first)

  accepted-last : (texts : List (List ℕ)) (text : List ℕ) (s : HexSession)
      → hex_accepted d s (texts ++ (text ∷ [])) ≡ hex_accepted d s texts ++ kept_if (hex_verdict_on d (hex_feed d s texts) text) text []
  unfolding hex_feed hex_accepted
  accepted-last [] text s = refl
  accepted-last (first ∷ texts) text s =
      ap (kept_if (hex_verdict_on d s first) first) (accepted-last texts text (hex_after d s first))
      ∙ keeps-last (hex_verdict_on d s first) first (hex_accepted d (hex_after d s first) texts) _

  -- The first n of some records are all accepted, and the reading comes to `end`.
  pub record Reached (text : ℕ → List ℕ) (s : HexSession) (n : ℕ) (end : HexSession) : Type 0 where
    pub comes-to : hex_feed d s (list_below n text) ≡ end
    pub all-taken : hex_accepted d s (list_below n text) ≡ list_below n text

  pub reached-none : (text : ℕ → List ℕ) (s : HexSession) → Reached text s 0 s
  unfolding list_below hex_feed hex_accepted
  reached-none text s = record { comes-to = refl; all-taken = refl }

  pub reached-more : (text : ℕ → List ℕ) (s : HexSession) (n : ℕ) (end next : HexSession) → Reached text s n end
      → hex_verdict_on d end (text n) ≡ Ok tt → hex_after d end (text n) ≡ next → Reached text s (suc n) next
  unfolding list_below
  reached-more text s n end next r passes moves =
      record {
        comes-to = feed-last (list_below n text) (text n) s ∙ rw r.comes-to moves;
        all-taken = accepted-last (list_below n text) (text n) s ∙ rw (r.all-taken, r.comes-to, passes);
      }

  -- A refused record changes nothing.
  pub refused-stands : (s : HexSession) (text : List ℕ) (cause : Cause) → hex_verdict_on d s text ≡ Err cause
      → hex_after d s text ≡ s
  unfolding hex_after
  refused-stands s text cause e = rw e

  -- So the accepted ones alone lead to the same, and all of them are accepted.
  module _ (s : HexSession) (text : List ℕ) (texts : List (List ℕ)) where
    abbrev rest : List (List ℕ)
    rest = hex_accepted d (hex_after d s text) texts

    abbrev Counts : Type 0
    Counts =
        let taken = hex_accepted d s (text ∷ texts) in
        (hex_feed d s taken ≡ hex_feed d s (text ∷ texts)) × (hex_accepted d s taken ≡ taken)

    one-counts : (hex_feed d (hex_after d s text) rest ≡ hex_feed d (hex_after d s text) texts)
        × (hex_accepted d (hex_after d s text) rest ≡ rest) → Counts
    unfolding hex_feed hex_accepted
    one-counts later = go (hex_verdict_on d s text) refl
      where
        go : (v : Verdict) → hex_verdict_on d s text ≡ v → Counts
        go (Ok tt) e = rw (e, e) (later.0, ap (λ (l : List (List ℕ)). text ∷ l) later.1)
        go (Err cause) e = rw (e, refused-stands s text cause e) (rw (refused-stands s text cause e) at later)

  refused-counts : (s : HexSession) (texts : List (List ℕ))
      → (hex_feed d s (hex_accepted d s texts) ≡ hex_feed d s texts) × (hex_accepted d s (hex_accepted d s texts) ≡ hex_accepted d s texts)
  unfolding hex_feed hex_accepted
  refused-counts s [] = (refl, refl)
  refused-counts s (text ∷ texts) = one-counts s text texts (refused-counts (hex_after d s text) texts)

  pub refused-skipped : (s : HexSession) (texts : List (List ℕ)) → HexSkipped d s texts
  refused-skipped s texts = let counts = refused-counts s texts in record { comes-to = counts.0; accepts = counts.1 }
