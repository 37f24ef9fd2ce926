-- A design as 14 numbers: kind, w, q, g, alpha, m, then a and b of each of the four pairs. And states of readings as they come in.
use Rattle.std.specs.Prelude.{List, [], ◌∷◌, ℕ, get_or, ℤ}
use Rattle.design.specs.declared.Pair.{Pair}
use Rattle.design.specs.declared.Design.{Design}
use Rattle.design.specs.Cut.{no_pair}
use Rattle.reading.specs.declared.Reading.{Reading}
use Rattle.reading.specs.ReadLine.{Session, session}
use Rattle.record_reading.specs.declared.HexReading.{HexReading}
use Rattle.record_reading.specs.ReadRecord.{HexSession, hex_session}

-- The pair whose a and b stand at these places
abbrev pub pair_from : List ℕ → ℕ → ℕ → Pair
pair_from numbers a b = record { a = get_or numbers a 0; b = get_or numbers b 0 }

-- The design that the numbers stand for
unfoldable pub design_of : List ℕ → Design
design_of numbers =
    record {
      kind = get_or numbers 0 0;
      w = get_or numbers 1 0;
      q = get_or numbers 2 0;
      g = get_or numbers 3 0;
      alpha = get_or numbers 4 0;
      m = get_or numbers 5 0;
      pairs = pair_from numbers 6 7 ∷ pair_from numbers 8 9 ∷ pair_from numbers 10 11 ∷ pair_from numbers 12 13 ∷ [];
    }

-- Pair i of the four, read or not
abbrev pub pair_in : Design → ℕ → Pair
pair_in d i = get_or d.pairs i no_pair

-- The numbers that stand for a design
unfoldable pub numbers_of : Design → List ℕ
numbers_of d =
    d.kind ∷ d.w ∷ d.q ∷ d.g ∷ d.alpha ∷ d.m
    ∷ (pair_in d 0).a ∷ (pair_in d 0).b ∷ (pair_in d 1).a ∷ (pair_in d 1).b
    ∷ (pair_in d 2).a ∷ (pair_in d 2).b ∷ (pair_in d 3).a ∷ (pair_in d 3).b ∷ []

-- A reading's state as it comes in: the design's numbers, and how many lines are taken
abbrev pub state_of : List ℕ → ℕ → Reading
state_of numbers taken = record { design = design_of numbers; taken = taken }

-- A reading as it comes in: its state, and the tables that are lent
abbrev pub session_of : List ℕ → ℕ → List ℕ → List ℤ → Session
session_of numbers taken initial offsets = session (state_of numbers taken) initial offsets

-- The state of a reading of records as it comes in: how many are taken, and the two bytes that are held; and the two bytes of a state
abbrev pub hex_state_of : ℕ → List ℕ → HexReading
hex_state_of taken held = record { taken = taken; first = get_or held 0 0; second = get_or held 1 0 }

abbrev pub held_in : HexReading → List ℕ
held_in state = state.first ∷ state.second ∷ []

-- A reading of records as it comes in
abbrev pub hex_session_of : ℕ → List ℕ → List ℕ → List ℤ → HexSession
hex_session_of taken held initial offsets = hex_session (hex_state_of taken held) initial offsets
