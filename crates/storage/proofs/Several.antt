-- Document 02, A8: a file of several sets reads back to each set in turn.
use Rattle.std.specs.Prelude.{Ok}
use mathlib.Core.Path.{◌≡◌, refl, sym, ap, ◌∙◌}
use mathlib.Core.List.{List, [], ◌∷◌, ◌++◌}
use Prim.Native.Nat.{ℕ, zero, suc, ◌≤◌}
use native.Mathlib.Nat.{le_refl}
use native.Mathlib.Omega.{arith}
use lib.ListN.{replicate}
use Rattle.general.specs.Lists.{All}
use Rattle.general.proofs.JoinedLaws.{all_weaker}
use Rattle.reading.specs.ReadLine.{Session, after, verdict_on}
use Rattle.reading.proofs.ReadLaws.{not-begun}
use Rattle.storage.specs.Sets.{TableSet, Storable, lines_in}
use Rattle.storage.specs.Feeding.{Begins, Finished, feed, accepted, finished_by, finishes}
use Rattle.storage.specs.Several.{separated, Spaced, sets_of, file_lines, Apart, LongFor, Readable, InTurn, Several}
use Rattle.storage.proofs.Feeds.{feed-append, accepted-append, finishes-append}
use Rattle.storage.proofs.EmptyLines.{empty-before, empty-behind, empty-refused, restarted, fed-kept}
use Rattle.storage.proofs.ReadingBack.{read_back, finished-once}
use Rattle.storage.proofs.OnlyThese.{only-these}

-- Lines that are all accepted, lead from one reading to another and finish these sets on the way
record Goes (s : Session) (lines : List (List ℕ)) (end : Session) (sets : List Session) : Type 0 where
  comes-to : feed s lines ≡ end
  all-taken : accepted s lines ≡ lines
  finished-sets : finishes s lines ≡ sets

goes_on : (s middle end : Session) (lines more : List (List ℕ)) (sets later : List Session) → Goes s lines middle sets
    → Goes middle more end later → Goes s (lines ++ more) end (sets ++ later)
goes_on s middle end lines more sets later first rest =
    record {
      comes-to = feed-append more lines s ∙ rw first.comes-to rest.comes-to;
      all-taken = accepted-append more lines s ∙ rw (first.comes-to, first.all-taken, rest.all-taken);
      finished-sets = finishes-append more lines s ∙ rw (first.comes-to, first.finished-sets, rest.finished-sets);
    }

-- An empty line that leads to a reading with no line taken
one-empty : (s next : Session) → verdict_on s [] ≡ Ok tt → after s [] ≡ next → Begins next → Goes s ([] ∷ []) next []
unfolding feed accepted finishes finished_by
one-empty s next passes moves none =
    record { comes-to = moves; all-taken = rw passes; finished-sets = rw (passes, moves, not-begun next.state none) }

no_line : (s : Session) → Goes s [] s []
unfolding feed accepted finishes
no_line s = record { comes-to = refl; all-taken = refl; finished-sets = refl }

-- Empty lines before a set's first line,
goes_before : (n : ℕ) (s : Session) → Begins s → Goes s (replicate n []) s []
goes_before zero s none = no_line s
goes_before (suc n) s none =
    let e = empty-before s none in
    goes_on s s s ([] ∷ []) (replicate n []) [] [] (one-empty s s e.0 e.1 none) (goes_before n s none)

-- and behind a finished set
goes-behind : (n : ℕ) (s : Session) → Finished s → Goes s (replicate (suc n) []) (restarted s) []
goes-behind n s done =
    let e = empty-behind s done in
    goes_on s (restarted s) (restarted s) ([] ∷ []) (replicate n []) [] [] (one-empty s (restarted s) e.0 e.1 refl)
    (goes_before n (restarted s) refl)

behind-gap : (gap : ℕ) → 1 ≤ gap → (s end : Session) (lines : List (List ℕ)) (sets : List Session) → Finished s
    → Goes (restarted s) lines end sets → Goes s (replicate gap [] ++ lines) end sets
behind-gap zero h s end lines sets done rest = absurd (omega arith)
behind-gap (suc n) h s end lines sets done rest =
    goes_on s (restarted s) end (replicate (suc n) []) lines [] sets (goes-behind n s done) rest

-- Where the last lines of a file leave a reading that is finished
goes_last : (n : ℕ) (s : Session) → Finished s → Goes s (replicate n []) (feed s (replicate n [])) []
goes_last zero s done = let e = no_line s in rw e.comes-to e
goes_last (suc n) s done = let e = goes-behind n s done in rw e.comes-to e

-- One set
module _ (s : Session) (t : TableSet) (ok : Storable t) (long : LongFor s t) (none : Begins s) where
  abbrev read : Session
  read = feed s (lines_in t)

  goes_set : Goes s (lines_in t) read (read ∷ [])
  goes_set =
      record {
        comes-to = refl;
        all-taken = (read_back t ok s none long.initial long.offsets).all-accepted;
        finished-sets = finished-once t ok s none long.initial long.offsets;
      }

  set-done : Finished read
  set-done = (read_back t ok s none long.initial long.offsets).finished

-- Tables that were long enough still are.
still-readable : (s : Session) (t : TableSet) (rest : List TableSet) → Readable s (t ∷ rest) → Readable (restarted (feed s (lines_in t))) rest
still-readable s t rest r =
    let kept = fed-kept (lines_in t) s in
    record {
      storable = r.storable.1;
      long = all_weaker (λ u long. record { initial = rw kept.initial long.initial; offsets = rw kept.offsets long.offsets })
          rest r.long.1;
    }

-- The readings at the finish of each set, and the last reading
abbrev at_finishes : Session → List TableSet → List Session
at_finishes s [] = []
at_finishes s (t ∷ rest) = feed s (lines_in t) ∷ at_finishes (restarted (feed s (lines_in t))) rest

abbrev at_end : Session → TableSet → List TableSet → Session
at_end s t [] = feed s (lines_in t)
at_end s t (next ∷ rest) = at_end (restarted (feed s (lines_in t))) next rest

-- hold each set in turn,
holds-each : (sets : List TableSet) (s : Session) → Readable s sets → Begins s → InTurn (at_finishes s sets) sets
holds-each [] s r none = tt
holds-each (t ∷ rest) s r none = (
  (read_back t r.storable.0 s none r.long.0.initial r.long.0.offsets).same,
  holds-each rest (restarted (feed s (lines_in t))) (still-readable s t rest r) refl,
)

-- and the last set is finished.
ends-finished : (rest : List TableSet) (t : TableSet) (s : Session) → Readable s (t ∷ rest) → Begins s → Finished (at_end s t rest)
ends-finished [] t s r none = set-done s t r.storable.0 r.long.0 none
ends-finished (next ∷ rest) t s r none =
    ends-finished rest next (restarted (feed s (lines_in t))) (still-readable s t (next ∷ rest) r) refl

-- One empty line between sets
goes-separated : (rest : List TableSet) (t : TableSet) (s : Session) → Readable s (t ∷ rest) → Begins s
    → Goes s (separated (t ∷ rest)) (at_end s t rest) (at_finishes s (t ∷ rest))
unfolding separated
goes-separated [] t s r none = goes_set s t r.storable.0 r.long.0 none
goes-separated (next ∷ rest) t s r none =
    let read = feed s (lines_in t) in
    goes_on s read _ (lines_in t) _ (read ∷ []) _ (goes_set s t r.storable.0 r.long.0 none)
    (behind-gap 1 (le_refl 1) read _ _ _ (set-done s t r.storable.0 r.long.0 none)
    (goes-separated rest next (restarted read) (still-readable s t (next ∷ rest) r) refl))

-- More of them between sets, and behind the last
goes-spaced : (rest : List Spaced) (behind : ℕ) (t : TableSet) (s : Session) → Readable s (t ∷ sets_of rest)
    → All (λ (q : Spaced). 1 ≤ q.gap) rest → Begins s
    → Goes s (lines_in t ++ file_lines rest behind) (feed (at_end s t (sets_of rest)) (replicate behind [])) (at_finishes s (t ∷ sets_of rest))
unfolding file_lines
goes-spaced [] behind t s r apart none =
    goes_on s _ _ (lines_in t) _ _ [] (goes_set s t r.storable.0 r.long.0 none)
    (goes_last behind _ (set-done s t r.storable.0 r.long.0 none))
goes-spaced (q ∷ rest) behind t s r apart none =
    let read = feed s (lines_in t) in
    goes_on s read _ (lines_in t) _ (read ∷ []) _ (goes_set s t r.storable.0 r.long.0 none)
    (behind-gap q.gap apart.0 read _ _ _ (set-done s t r.storable.0 r.long.0 none)
    (goes-spaced rest behind q.set (restarted read) (still-readable s t (q.set ∷ sets_of rest) r) apart.1 refl))

-- and before the first
module _ (behind : ℕ) (s : Session) (none : Begins s) where
  goes-file : (p : Spaced) (rest : List Spaced) → Readable s (sets_of (p ∷ rest)) → Apart (p ∷ rest)
      → Goes s (file_lines (p ∷ rest) behind) (feed (at_end s p.set (sets_of rest)) (replicate behind []))
      (at_finishes s (sets_of (p ∷ rest)))
  unfolding file_lines
  goes-file p rest r apart =
      goes_on s s _ (replicate p.gap []) _ [] _ (goes_before p.gap s none) (goes-spaced rest behind p.set s r apart none)

  spaced : (file : List Spaced) → Readable s (sets_of file) → Apart file
      → (accepted s (file_lines file behind) ≡ file_lines file behind)
      × (finishes s (file_lines file behind) ≡ finishes s (separated (sets_of file)))
      × (feed s (file_lines file behind) ≡ feed (feed s (separated (sets_of file))) (replicate behind []))
  unfolding file_lines separated feed finishes
  spaced [] r apart = let g = goes_before behind s none in (g.all-taken, g.finished-sets, refl)
  spaced (p ∷ rest) r apart =
      let g = goes-file p rest r apart in
      let one = goes-separated (sets_of rest) p.set s r none in (
        g.all-taken,
        g.finished-sets ∙ sym one.finished-sets,
        g.comes-to ∙ ap (λ (end : Session). feed end (replicate behind [])) (sym one.comes-to),
      )

in-turn : (sets : List TableSet) (s : Session) → Readable s sets → Begins s
    → (accepted s (separated sets) ≡ separated sets) × InTurn (finishes s (separated sets)) sets
unfolding separated accepted finishes
in-turn [] s r none = (refl, tt)
in-turn (t ∷ rest) s r none =
    let g = goes-separated rest t s r none in
    (g.all-taken, rw g.finished-sets (holds-each (t ∷ rest) s r none))

pub several : Several
several =
    record {
      before = empty-before;
      behind = empty-behind;
      inside = empty-refused;
      in-turn = in-turn;
      last = λ t rest s r none. rw (goes-separated rest t s r none).comes-to (ends-finished rest t s r none);
      more-empty = λ file behind s r apart none. spaced behind s none file r apart;
      only-these = only-these;
    }
