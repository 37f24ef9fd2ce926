-- What can be said of input, whatever it is.
use Rattle.std.specs.Prelude.{◌≡◌, true, false, cond, ◌&&◌, ◌⊎◌, List, [], ◌∷◌, ◌++◌, ℕ, ◌+◌, ◌≤◌, ◌<◌, ltb, eqb, length, get_or, take, drop, Option, Some, None, is_some}
use Rattle.frames.specs.Line.{line_fails}
use Rattle.console.specs.Blocks.{Blocks}
use Rattle.console.specs.declared.line.LineEnd.{LineEnd}
use Rattle.console.specs.declared.line.LineStart.{LineStart}
use Rattle.console.specs.declared.line.Line.{Line}
use Rattle.console.specs.Counts.{IsPrefixLen}

-- The next byte that is left in the input's block, and what is left then
unfoldable pub in_block : Blocks → Option ℕ × Blocks
in_block c =
    cond (ltb c.at c.count && ltb c.at (length c.input))
    (Some (get_or c.input c.at 0), record c { at = c.at + 1 })
    (None, c)

-- A block of which so many bytes came: where none did, the input has ended.
abbrev pub with_block : Blocks → ℕ → Blocks
with_block c count = record c { at = 0; count = count; ended = eqb count 0 }

-- A block that has just come: no more bytes of it than it holds, none taken yet, and where there are none, the input has ended. What was pending
-- went out before.
pub record Fresh (c : Blocks) : Type 0 where
  pub at-start : c.at ≡ 0
  pub within : c.count ≤ length c.input
  pub by_count : c.ended ≡ eqb c.count 0
  pub none-pending : c.pending ≡ 0

-- The next byte of the input: the one that is left in the block, which stands then; where none is, the first of the next block, if there
-- is one. No block is asked for once the input has ended.
pub record NextRead (c : Blocks) (byte : Option ℕ) (next : Blocks) : Type 0 where
  pub left : is_some (in_block c).0 ≡ true → (byte, next) ≡ in_block c
  pub over : c.ended ≡ true → (byte, next) ≡ in_block c
  pub begun : Blocks
  pub from_start : (in_block c).0 ≡ None → c.ended ≡ false → Fresh begun × ((byte, next) ≡ in_block begun)

-- What writing leaves as it is
abbrev pub KeepsInput : Blocks → Blocks → Type 0
KeepsInput c next = (next.input ≡ c.input) × (next.at ≡ c.at) × (next.count ≡ c.count) × (next.ended ≡ c.ended)

-- The same, and the length of the output's block
abbrev pub KeepsBlocks : Blocks → Blocks → Type 0
KeepsBlocks c next = KeepsInput c next × (length next.output ≡ length c.output)

-- What is left in the block
abbrev pub left_in : Blocks → List ℕ
left_in c = drop c.at (take c.count c.input)

pub record EndsWith (bytes last : List ℕ) : Type 0 where
  pub earlier : List ℕ
  pub whole : bytes ≡ earlier ++ last

-- What came in later blocks: none came, and the one that was there stands; or what came ends with the one that is there now.
abbrev pub CameIn : Blocks → List ℕ → Blocks → Type 0
CameIn c came next =
    ((came ≡ []) × (next.input ≡ c.input) × (next.count ≡ c.count)) ⊎ EndsWith came (take next.count next.input)

-- Bytes that were taken one after another, in so many calls: what was left in the block and then what came in later ones are, byte for byte,
-- these bytes and then what is left now.
pub record Takes (c : Blocks) (bytes : List ℕ) (next : Blocks) : Type 0 where
  pub came : List ℕ
  pub whole : left_in c ++ came ≡ bytes ++ left_in next
  pub blocks : CameIn c came next
  -- An input that has ended stays so.
  pub over : c.ended ≡ true → next.ended ≡ true

-- Document 01: "the line is all bytes before the first newline, or all there are if none comes". 10 is the newline.
abbrev pub NoNewline : List ℕ → ℕ → Type 0
NoNewline bytes n = (i : ℕ) → i < n → get_or bytes i 0 ≡ 10 → ⊥

-- The bytes of a line with what ended it: a newline, or nothing
abbrev pub spelled : LineEnd → List ℕ → List ℕ
spelled LineEnd.Newline line = line ++ 10 ∷ []
spelled LineEnd.Input line = line
spelled LineEnd.Cut line = line

-- The bytes that were taken for the start of a line: none, where there is no line
abbrev pub start_bytes : Option LineStart → List ℕ → List ℕ
start_bytes None bytes = []
start_bytes (Some start) bytes = spelled start.end (take start.count bytes)

abbrev pub line_bytes : Option Line → List ℕ
line_bytes None = []
line_bytes (Some line) = spelled line.end (take line.count line.bytes)

-- The start of a line, read into bytes that the caller lends
pub record StartRead (bytes : List ℕ) (start : LineStart) (next : Blocks) : Type 0 where
  -- the bytes read are the first `count`, and no newline is among them
  pub counts : IsPrefixLen start.count bytes
  pub no-newline : NoNewline bytes start.count
  -- a line is cut off only where all lent bytes are used; the input has ended where it is said to have ended the line, which has a byte then
  pub full : start.end ≡ LineEnd.Cut → start.count ≡ length bytes
  pub over : start.end ≡ LineEnd.Input → next.ended ≡ true
  pub some : start.end ≡ LineEnd.Input → 0 < start.count

-- The start of a line, as much of it as the longest line has and a byte more
pub record LineRead (line : Line) (next : Blocks) : Type 0 where
  -- the bytes read are the first `count` of the array, and no newline is among them
  pub counts : IsPrefixLen line.count line.bytes
  pub no-newline : NoNewline line.bytes line.count
  -- the input has ended where it is said to have ended the line
  pub over : line.end ≡ LineEnd.Input → next.ended ≡ true
  -- a line that is said to be cut off is refused with 15, "over 32 digits", whatever follows what was read
  pub cut : line.end ≡ LineEnd.Cut → (rest : List ℕ) → line_fails (take line.count line.bytes ++ rest) ≡ true
