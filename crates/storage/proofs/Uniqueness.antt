-- A finished reading came from exactly the lines the writer gives.
use Rattle.std.specs.Prelude.{Ok, Err}
use mathlib.Core.Path.{◌≡◌, refl, sym, ap, ap₂, ◌∙◌}
use mathlib.Core.Bool.{Bool, true, false, cond}
use mathlib.Core.List.{List, [], ◌∷◌, ◌++◌, append-nil}
use Prim.Native.Nat.{ℕ, ◌+◌, ◌≤◌, ◌<◌}
use native.Mathlib.Decide.{dec_lt}
use native.Mathlib.Numerals.{add-one}
use native.Mathlib.Omega.{arith}
use lib.Dec.{eqb}
use lib.ListN.{length, get_or, take, length-set}
use lib.Seq.{get_or-take}
use lib.IntN.{ℤ}
use borrow.Author.Tests.{eqb-true, ne_eqb}
use Rattle.general.specs.Below.{list_below}
use Rattle.general.proofs.ListLaws.{list-congruence}
use Rattle.refusal.specs.declared.Cause.{Cause}
use Rattle.refusal.specs.Verdict.{Verdict}
use Rattle.design.specs.Cut.{sum_limit}
use Rattle.design.specs.Stored.{initial_count}
use Rattle.tables.specs.Inputs.{Usable}
use Rattle.frames.specs.Line.{is_empty}
use Rattle.encoding.specs.Bytes.{entry_bytes, from_complement}
use Rattle.lines.specs.declared.Slot.{Slot}
use Rattle.lines.specs.Slots.{line_count, slot_of}
use Rattle.lines.specs.Lines.{line_at, set_lines}
use Rattle.writing.proofs.WriteLaws.{Carried}
use Rattle.reading.specs.ReadLine.{Session, session, none_taken, initial_stored, offsets_stored, verdict_on, after}
use Rattle.reading.proofs.ReadLaws.{all-taken}
use Rattle.storage.specs.Feeding.{Begins, Finished, feed, accepted, with_line, taken_from, taken}
use Rattle.storage.specs.Sets.{TableSet, SameSet}
use Rattle.storage.specs.Storage.{CameFrom, set_in}
use Rattle.storage.proofs.SameDesigns.{initial-count-same}
use Rattle.storage.proofs.Fitting.{lines-storable}
use Rattle.storage.proofs.Accepting.{SomeAccepted, accepted-line}
use Rattle.storage.proofs.Standing.{earlier-line, earlier-entry}

-- The lines that came are the writer's for the design and the tables that the reading has.
pub record SoFar (s : Session) (came : List (List ℕ)) : Type 0 where
  pub lines : came ≡ list_below s.state.taken (line_at s.state.design s.initial s.offsets)
  pub tables : 0 < s.state.taken → Usable s.state.design (length s.initial) (length s.offsets)
  pub entries : (n : ℕ) → n < s.state.taken → Carried s.state.design (slot_of s.state.design n) s.initial s.offsets

-- Storing keeps the tables' lengths.
pub initial-length : (slot : Slot) (v : ℕ) (initial : List ℕ) → length (initial_stored slot v initial) ≡ length initial
unfolding initial_stored
initial-length Slot.Design v initial = refl
initial-length (Slot.Initial index) v initial = length-set initial index v
initial-length (Slot.Offset table index place) v initial = refl
initial-length (Slot.End before) v initial = refl

pub offsets-length : (slot : Slot) (v : ℕ) (offsets : List ℤ) → length (offsets_stored slot v offsets) ≡ length offsets
unfolding offsets_stored
offsets-length Slot.Design v offsets = refl
offsets-length (Slot.Initial index) v offsets = refl
offsets-length (Slot.Offset table index place) v offsets = length-set offsets place (from_complement entry_bytes v)
offsets-length (Slot.End before) v offsets = refl

module _ (s : Session) (came : List (List ℕ)) (so_far : SoFar s came) (line : List ℕ) where
  -- An accepted line is one more of the writer's.
  module _ (some : SomeAccepted s line) where
    abbrev n : ℕ
    n = s.state.taken

    abbrev next : Session
    next =
        session (record { design = some.design; taken = n + 1 })
        (initial_stored (slot_of some.design n) some.number s.initial)
        (offsets_stored (slot_of some.design n) some.number s.offsets)

    line-stands : (j : ℕ) → j < n
        → line_at s.state.design s.initial s.offsets j ≡ line_at some.design next.initial next.offsets j
    line-stands j h =
        rw (← some.accepted.kept (omega arith))
        (sym (earlier-line some.design some.number s.initial s.offsets j n h some.accepted.within))

    entry_next : (j : ℕ) → j < n + 1 → Carried some.design (slot_of some.design j) next.initial next.offsets
    entry_next j h =
        elim (dec_lt j n) [
          | yes earlier ↦
              earlier-entry some.design some.number s.initial s.offsets j n earlier some.accepted.within
              (rw (some.accepted.kept (omega arith)) (so_far.entries j earlier))
          | no last ↦
              let e : j ≡ n = omega arith in
              rw e some.accepted.entry
        ]

    one_more : SoFar next (came ++ (line ∷ []))
    unfolding list_below
    one_more =
        record {
          lines =
              rw (add-one, so_far.lines)
              (ap₂ (λ (front : List (List ℕ)) (last : List ℕ). front ++ (last ∷ []))
              (list-congruence _ _ n line-stands) (sym some.accepted.written));
          tables = λ h. rw (initial-length, offsets-length) some.accepted.tables;
          entries = entry_next;
        }

-- A refused line changes nothing.
pub refused-stands : (s : Session) (line : List ℕ) (cause : Cause) → verdict_on s line ≡ Err cause → after s line ≡ s
unfolding after
refused-stands s line cause e = rw e

-- An accepted empty line leaves no line taken, and both tables.
pub empty-restarts : (s : Session) (line : List ℕ) → is_empty line ≡ true → verdict_on s line ≡ Ok tt
    → after s line ≡ session (none_taken s.state) s.initial s.offsets
unfolding after
empty-restarts s line empty e = rw (e, empty)

-- No line is taken yet.
pub none-taken : (s : Session) → Begins s → SoFar s []
unfolding list_below
none-taken s none = record { lines = rw none; tables = λ h. absurd (omega arith); entries = λ n h. absurd (omega arith) }

-- Whatever a line is, what counts after it are the writer's lines.
module _ (s : Session) (came : List (List ℕ)) (so_far : SoFar s came) (line : List ℕ) where
  abbrev StillSo : Type 0
  StillSo = SoFar (after s line) (with_line came s line)

  still-refused : (cause : Cause) → verdict_on s line ≡ Err cause → StillSo
  unfolding with_line
  still-refused cause e = rw (e, refused-stands s line cause e) (go (eqb s.state.taken 0) refl)
    where
      go : (none : Bool) → eqb s.state.taken 0 ≡ none → SoFar s (cond (eqb s.state.taken 0) [] (came ++ []))
      go true e = rw e (none-taken s (eqb-true _ _ e))
      go false e = rw (e, append-nil came) so_far

  still-restarted : is_empty line ≡ true → verdict_on s line ≡ Ok tt → StillSo
  unfolding with_line
  still-restarted empty e = rw (empty-restarts s line empty e) (none-taken _ refl)

  still-accepted : is_empty line ≡ false → verdict_on s line ≡ Ok tt → StillSo
  unfolding with_line
  still-accepted not-empty e =
      let some = accepted-line s line not-empty e in
      rw (e, some.accepted.moved, ne_eqb (s.state.taken + 1) 0 (λ z. omega arith)) (one_more s came so_far line some)

  pub still-so : StillSo
  still-so = go (verdict_on s line) (is_empty line) refl refl
    where
      go : (v : Verdict) (empty : Bool) → verdict_on s line ≡ v → is_empty line ≡ empty → StillSo
      go (Ok tt) true e f = still-restarted f e
      go (Ok tt) false e f = still-accepted f e
      go (Err cause) true e f = still-refused cause e
      go (Err cause) false e f = still-refused cause e

-- So it goes on, line by line.
follows : (lines : List (List ℕ)) (s : Session) (came : List (List ℕ)) → SoFar s came → SoFar (feed s lines) (taken_from came s lines)
unfolding feed taken_from
follows [] s came so_far = so_far
follows (line ∷ lines) s came so_far = follows lines (after s line) (with_line came s line) (still-so s came so_far line)

-- Refused lines do not count: the accepted ones alone lead to the same, and all of them are accepted.
module _ (s : Session) (line : List ℕ) (lines : List (List ℕ)) where
  abbrev rest : List (List ℕ)
  rest = accepted (after s line) lines

  abbrev Counts : Type 0
  Counts =
      let taken = accepted s (line ∷ lines) in
      (feed s taken ≡ feed s (line ∷ lines)) × (accepted s taken ≡ taken)

  one-counts : (feed (after s line) rest ≡ feed (after s line) lines) × (accepted (after s line) rest ≡ rest) → Counts
  unfolding feed accepted
  one-counts later = go (verdict_on s line) refl
    where
      go : (v : Verdict) → verdict_on s line ≡ v → Counts
      go (Ok tt) e = rw (e, e) (later.0, ap (λ (l : List (List ℕ)). line ∷ l) later.1)
      go (Err cause) e = rw (e, refused-stands s line cause e) (rw (refused-stands s line cause e) at later)

pub refused-skipped : (s : Session) (lines : List (List ℕ))
    → (feed s (accepted s lines) ≡ feed s lines) × (accepted s (accepted s lines) ≡ accepted s lines)
unfolding feed accepted
refused-skipped s [] = (refl, refl)
refused-skipped s (line ∷ lines) = one-counts s line lines (refused-skipped (after s line) lines)

-- All lines are taken: the set has a stored form, and they are its lines.
module _ (s : Session) (came : List (List ℕ)) (so_far : SoFar s came) (at-end : Finished s) where
  finished : s.state.taken ≡ line_count s.state.design
  finished = all-taken s.state at-end

  pub came_from : CameFrom (set_in s) came
  unfolding set_lines line_count
  came_from =
      record {
        storable = lines-storable (set_in s) (so_far.tables (omega (arith, finished))) (λ n h. so_far.entries n (rw finished h));
        lines = so_far.lines ∙ rw finished;
      }

pub unique : (s : Session) (lines : List (List ℕ)) → Begins s → Finished (feed s lines) → CameFrom (set_in (feed s lines)) (taken s lines)
unique s lines begins finished = came_from (feed s lines) (taken s lines) (follows lines s [] (none-taken s begins)) finished

-- So a set with an initial entry at the limit on sums or beyond it is none that a reading is finished with.
module _ (t : TableSet) (index : ℕ) (within : index < initial_count t.design) where
  front : (a b : List ℕ) → take (initial_count t.design) a ≡ take (initial_count t.design) b → get_or a index 0 ≡ get_or b index 0
  front a b e =
      sym (get_or-take (initial_count t.design) a index 0 within) ∙ ap (λ (l : List ℕ). get_or l index 0) e
      ∙ get_or-take (initial_count t.design) b index 0 within

  pub no-form : sum_limit t.design ≤ get_or t.initial index 0 → (s : Session) (lines : List (List ℕ)) → Begins s
      → Finished (feed s lines) → SameSet (set_in (feed s lines)) t → ⊥
  no-form over s lines begins finished same =
      let ok = (unique s lines begins finished).storable in
      let below : get_or t.initial index 0 < sum_limit t.design =
      rw (← front _ _ same.initial, ← same.design.q, ← same.design.g)
      (ok.below index (rw (initial-count-same _ _ same.design) within)) in
      omega arith
