-- What inner calls may count on. Their callers are proved to see to it.
use Rattle.std.specs.Prelude.{List, ℕ, ◌+◌, ◌*◌, ◌≤◌, take}
use Rattle.frames.specs.Line.{capacity}
use Rattle.encoding.specs.declared.Frame.{Frame}

-- The bytes that a frame has so far
abbrev pub held : Frame → List ℕ
held frame = take frame.count frame.bytes

-- A frame of so many bytes has room for a number of `width` more, at most 4.
pub record WidthInput (count width : ℕ) : Type 0 where
  pub narrow : width ≤ 4
  pub room : count + width ≤ capacity

-- A frame of so many bytes, without its sum byte, and a buffer that is long enough for its line
pub record PutInput (count buffer : ℕ) : Type 0 where
  pub short : count ≤ capacity
  pub long : 2 * (count + 1) ≤ buffer
