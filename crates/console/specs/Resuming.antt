-- A program that goes on in some blocks from some places.
use Rattle.std.specs.Prelude.{cond, List, ℕ, min, leb, length}
use Rattle.console.specs.Blocks.{Blocks}
use Rattle.console.specs.declared.Places.{Places}

-- Where a program is in its blocks
abbrev pub places_of : Blocks → Places
places_of c = record { at = c.at; count = c.count; ended = c.ended; pending = c.pending; failed = c.failed }

-- Some blocks with some places, which may lie past their ends
abbrev pub placed : List ℕ → List ℕ → Places → Blocks
placed input output p =
    record { input = input; at = p.at; count = p.count; ended = p.ended; output = output; pending = p.pending; failed = p.failed }

-- The same within the blocks: no more bytes came than the input's block holds, and nothing is pending where the number is past the end of
-- the output's.
abbrev pub within_blocks : Blocks → Blocks
within_blocks c = record c { count = min c.count (length c.input); pending = cond (leb c.pending (length c.output)) c.pending 0 }
