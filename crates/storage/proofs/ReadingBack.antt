-- Written lines read back to the same set.
use Rattle.std.specs.Prelude.{Ok}
use mathlib.Core.Path.{◌≡◌, refl, sym, ap, ◌∙◌}
use mathlib.Core.Bool.{false, cond}
use mathlib.Core.List.{List, [], ◌∷◌, ◌++◌, append-nil}
use Prim.Native.Nat.{ℕ, zero, suc, ◌+◌, ◌≤◌, ◌<◌}
use native.Mathlib.Nat.{add-zero, add-suc, le_refl}
use native.Mathlib.Numerals.{add-one}
use native.Mathlib.Omega.{arith}
use lib.ListN.{length, get_or, take, drop}
use lib.Seq.{get_or-take, length-take-le, take_at, drop_at, take-take}
use lib.IntN.{ℤ, pos}
use borrow.Author.Tests.{ne_eqb}
use Rattle.general.specs.Below.{list_below}
use Rattle.general.specs.Lists.{over}
use Rattle.general.proofs.WritingLaws.{over_none, over-start, over-length, over-next}
use Rattle.design.specs.declared.Design.{Design}
use Rattle.design.specs.Stored.{initial_count, offset_total}
use Rattle.design.specs.Same.{Same}
use Rattle.tables.specs.Inputs.{Usable}
use Rattle.frames.specs.DesignFrame.{frame_design}
use Rattle.encoding.specs.Bytes.{entry_bytes}
use Rattle.encoding.specs.Encode.{with_sum}
use Rattle.encoding.specs.DesignBytes.{design_bytes}
use Rattle.encoding.proofs.ComplementBack.{complement-back}
use Rattle.encoding.proofs.DesignBack.{design-back}
use Rattle.lines.specs.declared.Slot.{Slot}
use Rattle.lines.specs.Slots.{line_count, slot_of, offset_slot}
use Rattle.lines.specs.Lines.{entry_number, entry_fits, line_at, set_lines}
use Rattle.lines.proofs.SlotLaws.{slot-initial, slot-offset, slot-last}
use Rattle.writing.proofs.WriteLaws.{Carried}
use Rattle.reading.specs.Inputs.{Begun}
use Rattle.reading.specs.ReadLine.{Session, session, initial_stored, offsets_stored, verdict_on, after}
use Rattle.reading.specs.ReadLine.{finished as is-finished}
use Rattle.reading.proofs.ReadLaws.{finished-at-end, by_count, begun-possible}
use Rattle.storage.specs.Feeding.{Begins, Finished, feed, accepted, finished_by, finishes}
use Rattle.storage.specs.Sets.{TableSet, Storable, lines_in}
use Rattle.storage.specs.Storage.{ReadsBack}
use Rattle.storage.proofs.Feeds.{feed-append, accepted-append, finishes-append}
use Rattle.storage.proofs.SameDesigns.{initial-count-same, offset-total-same, line-count-same, slot_same, over-same, line_same}
use Rattle.storage.proofs.Fitting.{storable-lines}
use Rattle.storage.proofs.Taking.{given-usable, first_passes, first_taken, later-passes, later-taken}

-- The first n of some lines are all accepted, the reading comes to `end`, and these are the sets that it finished.
record Reached (line : ℕ → List ℕ) (s : Session) (n : ℕ) (end : Session) (sets : List Session) : Type 0 where
  comes-to : feed s (list_below n line) ≡ end
  all-taken : accepted s (list_below n line) ≡ list_below n line
  finished-sets : finishes s (list_below n line) ≡ sets

module _ (line : ℕ → List ℕ) (s : Session) (n : ℕ) (end next : Session) (sets : List Session) where
  reached-more : Reached line s n end sets → verdict_on end (line n) ≡ Ok tt → after end (line n) ≡ next
      → (set : List Session) → cond (is-finished next.state) (next ∷ []) [] ≡ set → Reached line s (suc n) next (sets ++ set)
  unfolding list_below feed accepted finishes finished_by
  reached-more r passes moves set set_is =
      record {
        comes-to = feed-append (line n ∷ []) (list_below n line) s ∙ rw r.comes-to moves;
        all-taken = accepted-append (line n ∷ []) (list_below n line) s ∙ rw (r.all-taken, r.comes-to, passes);
        finished-sets =
            finishes-append (line n ∷ []) (list_below n line) s
            ∙ rw (r.finished-sets, r.comes-to, passes, moves, set_is, append-nil set);
      }

-- The first n of the entries, written over a table: its first n are these, and the rest stands.
module _ {A : Type 0} (table entries : List A) (n m : ℕ) (same : m ≡ n) (long : length (take m entries) ≡ m) where
  whole : over table 0 (take m (take m entries)) ≡ take n entries ++ drop n table
  whole =
      rw (take-take m m entries (le_refl _), over-start table (take m entries), long, same)

  front_length : length (take n entries) ≡ n
  front_length = rw same at long

  front_read : take n (over table 0 (take m (take m entries))) ≡ take n entries
  front_read = rw whole (take_at (take n entries) (drop n table) n front_length)

  rest-stands : drop n (over table 0 (take m (take m entries))) ≡ drop n table
  rest-stands = rw whole (drop_at (take n entries) (drop n table) n front_length)

module _ (t : TableSet) (ok : Storable t) (s : Session) (begins : Begins s) (initial-long : initial_count t.design ≤ length s.initial)
    (offsets-long : offset_total t.design ≤ length s.offsets) where
  -- the design as its line gives it
  abbrev e : Design
  e = frame_design (with_sum (design_bytes t.design))

  same : Same e t.design
  same = design-back t.design ok.usable.legal

  abbrev line : ℕ → List ℕ
  line = line_at t.design t.initial t.offsets

  line-given : (n : ℕ) → line n ≡ line_at e t.initial t.offsets n
  line-given n = sym (line_same e t.design same t.initial t.offsets n)

  -- The tables are long enough, also while they are stored in.
  usable-given : Usable e (length s.initial) (length s.offsets)
  usable-given = given-usable t.design ok.usable.legal t.initial t.offsets s begins initial-long offsets-long

  entry-given : (n : ℕ) → n < line_count e → Carried e (slot_of e n) t.initial t.offsets
  entry-given n h =
      let entry = storable-lines t ok n (rw (line-count-same e t.design same) at h) in
      record {
        fits = rw (slot_same e t.design same n) entry.fits;
        below = rw (over-same e t.design same (slot_of e n), slot_same e t.design same n) entry.below;
      }

  -- Before the last line the reading is not finished.
  unfinished : (n : ℕ) → 0 < n → n < line_count e → is-finished (record { design = e; taken = n }) ≡ false
  unfinished n some within =
      let b : Begun (record { design = e; taken = n }) =
      record { some = some; legal = usable-given.legal; within = omega arith } in
      by_count _ (begun-possible _ b) ∙ ne_eqb n (line_count e) (λ z. omega arith)

  -- One later line
  module _ (n : ℕ) (initial : List ℕ) (offsets : List ℤ) (some : 0 < n) (within : n < line_count e)
      (initial-kept : length initial ≡ length s.initial) (offsets-kept : length offsets ≡ length s.offsets) where
    reached-line : (initial-next : List ℕ) (offsets-next : List ℤ)
        → let v = entry_number (slot_of e n) t.initial t.offsets in
        let next = session (record { design = e; taken = suc n }) initial-next offsets-next in
        initial_stored (slot_of e n) v initial ≡ initial-next → offsets_stored (slot_of e n) v offsets ≡ offsets-next
        → Reached line s n (session (record { design = e; taken = n }) initial offsets) []
        → (set : List Session) → cond (is-finished next.state) (next ∷ []) [] ≡ set → Reached line s (suc n) next set
    reached-line initial-next offsets-next initial-is offsets_are r =
        let usable : Usable e (length initial) (length offsets) = rw (initial-kept, offsets-kept) usable-given in
        let moves = later-taken e n initial t.initial offsets t.offsets some within usable (entry-given n within) in
        reached-more line s n _ _ [] r
        (rw (line-given n) (later-passes e n initial t.initial offsets t.offsets some within usable (entry-given n within)))
        (rw (line-given n, ← add-one n, ← initial-is, ← offsets_are) moves)

    -- that is not the last
    reached-later : suc n < line_count e → (initial-next : List ℕ) (offsets-next : List ℤ)
        → let v = entry_number (slot_of e n) t.initial t.offsets in
        initial_stored (slot_of e n) v initial ≡ initial-next → offsets_stored (slot_of e n) v offsets ≡ offsets-next
        → Reached line s n (session (record { design = e; taken = n }) initial offsets) []
        → Reached line s (suc n) (session (record { design = e; taken = suc n }) initial-next offsets-next) []
    reached-later more initial-next offsets-next initial-is offsets_are r =
        reached-line initial-next offsets-next initial-is offsets_are r [] (rw (unfinished (suc n) (omega arith) more))

  -- the set's entries
  abbrev initial-entries : List ℕ
  initial-entries = take (initial_count e) t.initial

  abbrev offset-entries : List ℤ
  offset-entries = take (offset_total e) t.offsets

  initial-count : length initial-entries ≡ initial_count e
  initial-count = length-take-le (initial_count e) t.initial (rw (initial-count-same e t.design same) ok.usable.initial-long)

  offset-count : length offset-entries ≡ offset_total e
  offset-count = length-take-le (offset_total e) t.offsets (rw (offset-total-same e t.design same) ok.usable.offsets-long)

  initial-room : length initial-entries ≤ length s.initial
  initial-room = rw (initial-count, initial-count-same e t.design same) initial-long

  offset-room : length offset-entries ≤ length s.offsets
  offset-room = rw (offset-count, offset-total-same e t.design same) offsets-long

  -- The tables keep their lengths.
  initial-length : (k : ℕ) → k ≤ initial_count e → length (over s.initial 0 (take k initial-entries)) ≡ length s.initial
  initial-length k h =
      let short = length-take-le k initial-entries (rw initial-count h) in
      over-length s.initial 0 (take k initial-entries) (rw short (omega (arith, initial-count, initial-room)))

  offsets-length : (p : ℕ) → p ≤ offset_total e → length (over s.offsets 0 (take p offset-entries)) ≡ length s.offsets
  offsets-length p h =
      let short = length-take-le p offset-entries (rw offset-count h) in
      over-length s.offsets 0 (take p offset-entries) (rw short (omega (arith, offset-count, offset-room)))

  -- One entry more stands in front of what the tables held.
  initial-more : (k : ℕ) → k < initial_count e → let slot = slot_of e (suc k) in
      initial_stored slot (entry_number slot t.initial t.offsets) (over s.initial 0 (take k initial-entries))
      ≡ over s.initial 0 (take (suc k) initial-entries)
  unfolding initial_stored entry_number
  initial-more k h =
      rw (slot-initial e (suc k) k (sym (add-one k)) h, ← get_or-take (initial_count e) t.initial k 0 h)
      (over-next s.initial initial-entries k 0 (rw initial-count h) initial-room ∙ rw add-one)

  initial-only : (k : ℕ) (v : ℕ) → k < initial_count e → offsets_stored (slot_of e (suc k)) v s.offsets ≡ s.offsets
  unfolding offsets_stored
  initial-only k v h = rw (slot-initial e (suc k) k (sym (add-one k)) h)

  offset-more : (p : ℕ) → p < offset_total e → let slot = slot_of e (initial_count e + 1 + p) in
      offsets_stored slot (entry_number slot t.initial t.offsets) (over s.offsets 0 (take p offset-entries))
      ≡ over s.offsets 0 (take (suc p) offset-entries)
  unfolding offsets_stored entry_number offset_slot entry_fits line_count
  offset-more p h =
      let slot = slot-offset e (initial_count e + 1 + p) p refl h in
      let fits = rw slot at (entry-given (initial_count e + 1 + p) (omega arith)).fits in
      rw (
        slot,
        complement-back entry_bytes (get_or t.offsets p (pos 0)) (omega arith) fits,
        ← get_or-take (offset_total e) t.offsets p (pos 0) h,
      )
      (over-next s.offsets offset-entries p (pos 0) (rw offset-count h) offset-room ∙ rw add-one)

  offset-only : (p : ℕ) (v : ℕ) → p < offset_total e
      → initial_stored (slot_of e (initial_count e + 1 + p)) v (over s.initial 0 (take (initial_count e) initial-entries))
      ≡ over s.initial 0 (take (initial_count e) initial-entries)
  unfolding initial_stored offset_slot
  offset-only p v h = rw (slot-offset e (initial_count e + 1 + p) p refl h)

  -- After the first line and k initial entries
  start : Reached line s 0 s []
  unfolding list_below feed accepted finishes
  start = record { comes-to = refl; all-taken = refl; finished-sets = refl }

  reached-initial : (k : ℕ) → k ≤ initial_count e
      → Reached line s (suc k)
      (session (record { design = e; taken = suc k }) (over s.initial 0 (take k initial-entries)) s.offsets) []
  unfolding line_count
  reached-initial zero h =
      let moves = first_taken t.design ok.usable.legal t.initial t.offsets s begins initial-long offsets-long in
      reached-more line s 0 s _ [] start
      (first_passes t.design ok.usable.legal t.initial t.offsets s begins initial-long offsets-long)
      (moves ∙ ap (λ (initial : List ℕ). session (record { design = e; taken = 1 }) initial s.offsets) (over_none s.initial 0))
      [] (rw (unfinished 1 (omega arith) (omega arith)))
  reached-initial (suc k) h =
      reached-later (suc k) _ s.offsets (omega arith) (omega arith) (initial-length k (omega arith)) refl (omega arith) _ _
      (initial-more k h) (initial-only k _ h) (reached-initial k (omega arith))

  -- after all of them and p offsets
  abbrev initial-read : List ℕ
  initial-read = over s.initial 0 (take (initial_count e) initial-entries)

  reached-offset : (p : ℕ) → p ≤ offset_total e
      → Reached line s (initial_count e + 1 + p)
      (session (record { design = e; taken = initial_count e + 1 + p }) initial-read (over s.offsets 0 (take p offset-entries))) []
  unfolding line_count
  reached-offset zero h =
      rw (add-zero (initial_count e + 1), add-one (initial_count e), ← over_none s.offsets 0)
      (reached-initial (initial_count e) (le_refl _))
  reached-offset (suc p) h =
      rw (add-suc (initial_count e + 1) p)
      (reached-later (initial_count e + 1 + p) initial-read _ (omega arith) (omega arith) (initial-length (initial_count e) (le_refl _))
      (offsets-length p (omega arith)) (omega arith) _ _ (offset-only p _ h) (offset-more p h) (reached-offset p (omega arith)))

  -- and after the last line
  abbrev offsets-read : List ℤ
  offsets-read = over s.offsets 0 (take (offset_total e) offset-entries)

  abbrev n-last : ℕ
  n-last = initial_count e + 1 + offset_total e

  abbrev end : Session
  end = session (record { design = e; taken = suc n-last }) initial-read offsets-read

  last-is : slot_of e n-last ≡ Slot.End n-last
  last-is = slot-last e n-last (omega arith)

  finished : Finished end
  unfolding line_count
  finished =
      finished-at-end end.state (record { some = omega arith; legal = usable-given.legal; within = omega arith }) (omega arith)

  reached-last : Reached line s (suc n-last) end (end ∷ [])
  unfolding line_count initial_stored offsets_stored
  reached-last =
      reached-line n-last initial-read offsets-read (omega arith) (omega arith) (initial-length (initial_count e) (le_refl _))
      (offsets-length (offset_total e) (le_refl _)) initial-read offsets-read (rw last-is) (rw last-is)
      (reached-offset (offset_total e) (le_refl _)) (end ∷ []) (rw finished)

  all_lines : lines_in t ≡ list_below (suc n-last) line
  unfolding set_lines line_count
  all_lines =
      let count : initial_count t.design + offset_total t.design + 2 ≡ suc n-last =
      omega (arith, initial-count-same e t.design same, offset-total-same e t.design same) in
      ap (λ (n : ℕ). list_below n line) count

  comes-to-end : feed s (lines_in t) ≡ end
  comes-to-end = rw all_lines reached-last.comes-to

  -- which is the only one that finishes a set
  pub finished-once : finishes s (lines_in t) ≡ feed s (lines_in t) ∷ []
  finished-once = rw (all_lines, reached-last.comes-to) reached-last.finished-sets

  pub read_back : ReadsBack t s (feed s (lines_in t))
  read_back =
      let d = t.design in
      let initial-same = initial-count-same e d same in
      let offsets-same = offset-total-same e d same in
      record {
        all-accepted = rw all_lines reached-last.all-taken;
        finished = rw comes-to-end finished;
        same =
            rw comes-to-end
            (record {
              design = same;
              initial = front_read s.initial t.initial (initial_count d) (initial_count e) initial-same initial-count;
              offsets = front_read s.offsets t.offsets (offset_total d) (offset_total e) offsets-same offset-count;
            });
        initial-beyond =
            rw comes-to-end (rest-stands s.initial t.initial (initial_count d) (initial_count e) initial-same initial-count);
        offsets-beyond =
            rw comes-to-end (rest-stands s.offsets t.offsets (offset_total d) (offset_total e) offsets-same offset-count);
      }
