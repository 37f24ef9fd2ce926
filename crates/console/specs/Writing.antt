-- What can be said of output, wherever it goes: what is pending in the output's block.
use Rattle.std.specs.Prelude.{Bool, cond, ◌≡◌, List, [], ◌∷◌, ◌++◌, ℕ, ◌+◌, ◌≤◌, leb, length, take}
use Rattle.console.specs.Blocks.{Blocks}

-- Nothing is pending, and the input is where it was. Whether all that was pending could be written, `failed` tells, and no definition.
abbrev pub flushed : Blocks → Bool → Blocks
flushed c failed = record c { pending = 0; failed = failed }

-- Room for so many bytes behind what is pending: the block has it, or what is pending goes out.
abbrev pub with_room : Blocks → ℕ → Bool → Blocks
with_room c count failed = cond (leb (c.pending + count) (length c.output)) c (flushed c failed)

-- What is pending in the block: nothing, where the number is past its end
abbrev pub pending_in : Blocks → List ℕ
pending_in c = cond (leb c.pending (length c.output)) (take c.pending c.output) []

-- What is pending once a text is put: the text behind what was pending; the text alone, where the block has no room for both; nothing, where
-- the block does not hold the text, which then goes out by itself.
unfoldable pub pending_with : Blocks → List ℕ → List ℕ
pending_with c text =
    cond (leb (c.pending + length text) (length c.output)) (pending_in c ++ text)
    (cond (leb (length text) (length c.output)) text [])

-- Texts that were put one after another, in so many calls, into a block of so many bytes: what was pending and then the texts are, byte for
-- byte, what has left the block since and then what is pending. Nothing leaves a block that has room for all of it.
pub record Puts (room : ℕ) (before text after : List ℕ) : Type 0 where
  pub gone : List ℕ
  pub whole : before ++ text ≡ gone ++ after
  pub kept : length before + length text ≤ room → gone ≡ []

-- Lines as they are put, each with its newline
unfoldable pub printed : List (List ℕ) → List ℕ
printed [] = []
printed (line ∷ lines) = line ++ 10 ∷ printed lines
