-- The offsets of a segment, B rising from 0, by Hi + Lo of the segment, b and p of its table and the function's sign
use Rattle.std.specs.Prelude.{Bool, List, ℕ, ◌^◌, ℤ}
use Rattle.general.specs.Below.{list_below}
use Rattle.entries.specs.Entries.{offset_of}

unfoldable pub segment_offsets : ℕ → ℕ → ℕ → Bool → List ℤ
segment_offsets slopes b p rising = list_below (2 ^ b) (offset_of slopes b p rising)
