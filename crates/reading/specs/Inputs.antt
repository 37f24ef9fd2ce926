-- What inner calls may count on. Their callers are proved to see to it.
use Rattle.std.specs.Prelude.{◌≡◌, List, ℕ, ◌≤◌, ◌<◌, take}
use Rattle.design.specs.Legal.{Legal}
use Rattle.frames.specs.Line.{capacity, padded}
use Rattle.lines.specs.Slots.{line_count}
use Rattle.reading.specs.declared.Reading.{Reading}

-- A sound line as `decode` gives it: its bytes with zeros behind them
pub record Sound (bytes : List ℕ) (count : ℕ) : Type 0 where
  pub short : count ≤ capacity
  pub zeros : bytes ≡ padded (take count bytes)

-- A possible state with a line taken
pub record Begun (state : Reading) : Type 0 where
  pub some : 0 < state.taken
  pub legal : Legal state.design
  pub within : state.taken ≤ line_count state.design
