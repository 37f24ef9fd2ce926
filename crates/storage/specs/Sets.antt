-- Sets: a design and tables that begin with the set's entries. Which sets are the same, and which can be written.
use Rattle.std.specs.Prelude.{◌≡◌, true, List, ℕ, ◌<◌, length, get_or, take, ℤ}
use Rattle.design.specs.declared.Design.{Design}
use Rattle.design.specs.Cut.{sum_limit}
use Rattle.design.specs.Stored.{initial_count, offset_total}
use Rattle.design.specs.Same.{Same}
use Rattle.tables.specs.Inputs.{Usable}
use Rattle.lines.specs.Slots.{line_count, slot_of}
use Rattle.lines.specs.Lines.{entry_fits, line_at, set_lines}

-- A design, and tables that begin with a set of it
pub record TableSet : Type 0 where
  pub design : Design
  pub initial : List ℕ
  pub offsets : List ℤ

-- "sets are compared without them": without pairs beyond m; what lies beyond the entries is no part of a set
pub record SameSet (a b : TableSet) : Type 0 where
  pub design : Same a.design b.design
  pub initial : take (initial_count b.design) a.initial ≡ take (initial_count b.design) b.initial
  pub offsets : take (offset_total b.design) a.offsets ≡ take (offset_total b.design) b.offsets

-- A set that can be written: its design is legal, its tables are long enough, the entry of each of its lines fits, as the writer tests it
-- (18), and every initial entry is below 2^(P+2). Document 02, A4, of an initial entry that is not: "A set with such an entry no longer has
-- a stored form" (23).
pub record Storable (t : TableSet) : Type 0 where
  pub usable : Usable t.design (length t.initial) (length t.offsets)
  pub fits : (n : ℕ) → n < line_count t.design → entry_fits (slot_of t.design n) t.initial t.offsets ≡ true
  pub below : (index : ℕ) → index < initial_count t.design → get_or t.initial index 0 < sum_limit t.design

-- Line n of a set, and all its lines in order
abbrev pub line_in : TableSet → ℕ → List ℕ
line_in t n = line_at t.design t.initial t.offsets n

abbrev pub lines_in : TableSet → List (List ℕ)
lines_in t = set_lines t.design t.initial t.offsets
