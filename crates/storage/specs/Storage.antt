-- Demand 2: "Written lines read back to the same set, and a finished reading came from exactly the lines the writer gives." Document 02,
-- A4, of an initial entry that is 2^(P+2) or more: "A set with such an entry no longer has a stored form, so reading back and writing match
-- over the remaining sets."
use Rattle.std.specs.Prelude.{◌≡◌, List, ◌++◌, ℕ, ◌≤◌, ◌<◌, length, get_or, drop, ℤ, Ok}
use Rattle.design.specs.declared.Design.{Design}
use Rattle.design.specs.Cut.{sum_limit}
use Rattle.design.specs.Stored.{initial_count, offset_total}
use Rattle.design.specs.Budget.{Admitted}
use Rattle.filling.specs.Fill.{fill_verdict, initial_after, offsets_after, Filled}
use Rattle.lines.specs.Slots.{line_count}
use Rattle.writing.specs.Write.{write_answer, buffer_after}
use Rattle.reading.specs.ReadLine.{Session}
use Rattle.storage.specs.Sets.{TableSet, SameSet, Storable, line_in, lines_in}
use Rattle.storage.specs.File.{file_of}
use Rattle.storage.specs.Feeding.{Begins, Finished, feed, accepted, taken}

-- "the lines the writer gives": asked for line n, it answers the line's length and leaves the line at the start of the buffer.
pub record Gives (t : TableSet) (n : ℕ) (buffer : List ℕ) : Type 0 where
  pub answer : write_answer t.design t.initial t.offsets n (length buffer) ≡ Ok (length (line_in t n))
  pub line : buffer_after t.design t.initial t.offsets n buffer ≡ line_in t n ++ drop (length (line_in t n)) buffer

-- The set that a reading has come to
abbrev pub set_in : Session → TableSet
set_in s = record { design = s.state.design; initial = s.initial; offsets = s.offsets }

-- "Written lines read back to the same set": a set's lines, fed to a reading, which they lead to its end; what lies beyond the set is as
-- it was.
pub record ReadsBack (t : TableSet) (s end : Session) : Type 0 where
  pub all-accepted : accepted s (lines_in t) ≡ lines_in t
  pub finished : Finished end
  pub same : SameSet (set_in end) t
  pub initial-beyond : drop (initial_count t.design) end.initial ≡ drop (initial_count t.design) s.initial
  pub offsets-beyond : drop (offset_total t.design) end.offsets ≡ drop (offset_total t.design) s.offsets

-- "a finished reading came from exactly the lines the writer gives": for the design and the tables that it ends with, and with document 02,
-- A8, the lines since it last had no line taken
pub record CameFrom (t : TableSet) (came : List (List ℕ)) : Type 0 where
  pub storable : Storable t
  pub lines : came ≡ lines_in t

-- "refused lines do not count": without them a reading comes to the same, and every other line is accepted again.
pub record RefusedSkipped (s : Session) (lines : List (List ℕ)) : Type 0 where
  pub comes-to : feed s (accepted s lines) ≡ feed s lines
  pub accepts : accepted s (accepted s lines) ≡ accepted s lines

-- Demand 2's last sentence, whole, and that what the fill writes can be stored
pub record Storage : Type 0 where
  -- the lines are those of document 01's list, in its order
  pub in_order : (t : TableSet) → lines_in t ≡ file_of t
  -- the writer gives every line of a set that can be written,
  pub writes : (t : TableSet) (n : ℕ) (buffer : List ℕ) → Storable t → n < line_count t.design
      → length (line_in t n) ≤ length buffer → Gives t n buffer
  -- and a set of which it gives every line can be written
  pub written : (t : TableSet) (buffer : List ℕ) → ((n : ℕ) → n < line_count t.design → Gives t n buffer) → Storable t
  -- the lines of such a set lead every reading that is begun into tables long enough to the same set
  pub reads-back : (t : TableSet) (s : Session) → Storable t → Begins s
      → initial_count t.design ≤ length s.initial → offset_total t.design ≤ length s.offsets
      → ReadsBack t s (feed s (lines_in t))
  -- and a reading that is finished, whatever lines were fed, took the writer's lines
  pub unique : (s : Session) (lines : List (List ℕ)) → Begins s → Finished (feed s lines)
      → CameFrom (set_in (feed s lines)) (taken s lines)
  -- whatever lines were fed, no reading is finished with a set that has "such an entry"
  pub no-form : (t : TableSet) (index : ℕ) → index < initial_count t.design → sum_limit t.design ≤ get_or t.initial index 0
      → (s : Session) (lines : List (List ℕ)) → Begins s → Finished (feed s lines) → SameSet (set_in (feed s lines)) t → ⊥
  -- refused lines change nothing
  pub refused : (s : Session) (lines : List (List ℕ)) → RefusedSkipped s lines
  -- what the fill writes can be stored: of an admitted design, all tables that begin with the entries the fill writes for it can be
  -- written, so that neither 18 nor 23 turns one of its lines down,
  pub filled : (t : TableSet) → Admitted t.design → Filled t.design t.initial t.offsets → Storable t
  -- and so can what an accepted fill leaves
  pub fills : (d : Design) (initial : List ℕ) (offsets : List ℤ) → fill_verdict d (length initial) (length offsets) ≡ Ok tt
      → Storable (record { design = d; initial = initial_after d initial offsets; offsets = offsets_after d initial offsets })
