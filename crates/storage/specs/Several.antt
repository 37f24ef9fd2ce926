-- Document 02, A8, "An empty line between sets": what an empty line does, and what a file of several sets reads back to.
use Rattle.std.specs.Prelude.{◌≡◌, true, false, cond, List, [], ◌∷◌, ◌++◌, map, ℕ, ◌≤◌, ◌<◌, length, replicate, Ok, Err}
use Rattle.general.specs.Lists.{All}
use Rattle.refusal.specs.declared.Cause.{Cause}
use Rattle.design.specs.Stored.{initial_count, offset_total}
use Rattle.frames.specs.Line.{is_empty}
use Rattle.reading.specs.ReadLine.{possible, finished, none_taken, Session, session, verdict_on, after}
use Rattle.storage.specs.Sets.{TableSet, SameSet, Storable, lines_in}
use Rattle.storage.specs.Feeding.{Begins, Finished, feed, accepted, taken, finishes}
use Rattle.storage.specs.Storage.{set_in}

-- The lines of sets "with one empty line between sets"
unfoldable pub separated : List TableSet → List (List ℕ)
separated [] = []
separated (t ∷ []) = lines_in t
separated (t ∷ next ∷ rest) = lines_in t ++ ([] ∷ separated (next ∷ rest))

-- A set in a file, and how many empty lines stand before it
pub record Spaced : Type 0 where
  pub gap : ℕ
  pub set : TableSet

abbrev pub sets_of : List Spaced → List TableSet
sets_of file = map (λ (p : Spaced). p.set) file

-- A file's lines: each set's behind its empty ones, and so many empty lines behind the last
unfoldable pub file_lines : List Spaced → ℕ → List (List ℕ)
file_lines [] behind = replicate behind []
file_lines (p ∷ rest) behind = replicate p.gap [] ++ (lines_in p.set ++ file_lines rest behind)

-- An empty line or more between sets; before the first there may be none.
abbrev pub Apart : List Spaced → Type 0
Apart [] = Unit {0}
Apart (p ∷ rest) = All (λ (q : Spaced). 1 ≤ q.gap) rest

-- "the lent tables are long enough for each"
pub record LongFor (s : Session) (t : TableSet) : Type 0 where
  pub initial : initial_count t.design ≤ length s.initial
  pub offsets : offset_total t.design ≤ length s.offsets

-- "each of whose entries can be stored", and for each the lent tables are long enough
pub record Readable (s : Session) (sets : List TableSet) : Type 0 where
  pub storable : All Storable sets
  pub long : All (LongFor s) sets

-- "read back to each set in turn": there are as many finishes as sets, and at each the design and the tables hold the set.
abbrev pub InTurn : List Session → List TableSet → Type 0
InTurn [] [] = Unit {0}
InTurn [] (t ∷ rest) = ⊥
InTurn (s ∷ more) [] = ⊥
InTurn (s ∷ more) (t ∷ rest) = SameSet (set_in s) t × InTurn more rest

-- Lines without the empty ones
unfoldable pub without_empty : List (List ℕ) → List (List ℕ)
without_empty [] = []
without_empty (line ∷ lines) = cond (is_empty line) (without_empty lines) (line ∷ without_empty lines)

-- The writer's lines of the sets that readings are finished with, one set after another
unfoldable pub lines_of : List Session → List (List ℕ)
lines_of [] = []
lines_of (s ∷ more) = lines_in (set_in s) ++ lines_of more

-- The lines of a set that is not finished yet, of a reading that begins with no line taken
abbrev pub unfinished_lines : Session → List (List ℕ) → List (List ℕ)
unfinished_lines s lines = cond (finished (feed s lines).state) [] (taken s lines)

-- A8, but for the report, which `DesignText.antt` of `frames` says
pub record Several : Type 0 where
  -- "An empty line before a set's first line is passed over, the state unchanged."
  pub before : (s : Session) → Begins s → (verdict_on s [] ≡ Ok tt) × (after s [] ≡ s)
  -- "An empty line after a finished set gives a reading state with no line taken, the design in it standing as it came." The tables stand.
  pub behind : (s : Session) → Finished s
      → (verdict_on s [] ≡ Ok tt) × (after s [] ≡ session (none_taken s.state) s.initial s.offsets)
  -- "Inside a set it is refused with 16"
  pub inside : (s : Session) → possible s.state ≡ true → 0 < s.state.taken → finished s.state ≡ false
      → (verdict_on s [] ≡ Err Cause.Frame) × (after s [] ≡ s)
  -- the lines of sets with one empty line between them, fed to one reading, are all accepted and come to each set in turn,
  pub in-turn : (sets : List TableSet) (s : Session) → Readable s sets → Begins s
      → (accepted s (separated sets) ≡ separated sets) × InTurn (finishes s (separated sets)) sets
  -- and with the last line the last set is finished
  pub last : (t : TableSet) (rest : List TableSet) (s : Session) → Readable s (t ∷ rest) → Begins s
      → Finished (feed s (separated (t ∷ rest)))
  -- more empty lines before, between and behind are accepted and change none of the sets: they are finished in the same tables. Behind the last
  -- set they do what `behind` and `before` say.
  pub more-empty : (file : List Spaced) (after_last : ℕ) (s : Session) → Readable s (sets_of file) → Apart file → Begins s
      → (accepted s (file_lines file after_last) ≡ file_lines file after_last)
      × (finishes s (file_lines file after_last) ≡ finishes s (separated (sets_of file)))
      × (feed s (file_lines file after_last) ≡ feed (feed s (separated (sets_of file))) (replicate after_last []))
  -- The other way round, whatever lines are fed: "a finished reading is compared with the writer's lines without the empty ones". All that
  -- was accepted is, in order, the writer's lines of each set that was finished, and what is there of one that is not.
  pub only-these : (s : Session) (lines : List (List ℕ)) → Begins s
      → without_empty (accepted s lines) ≡ lines_of (finishes s lines) ++ unfinished_lines s lines
