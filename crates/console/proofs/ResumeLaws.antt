-- Places that are brought within the blocks.
use mathlib.Core.Path.{◌≡◌}
use Prim.Native.Nat.{ℕ, min}
use native.Mathlib.Decide.{dec_lt}
use native.Mathlib.Omega.{arith}
use lib.ListN.{length}
use borrow.Author.Tests.{lt-ltb, le-ltb}
use Rattle.console.specs.Blocks.{Blocks}
use Rattle.console.specs.Reading.{in_block}

-- The same byte is next where the count goes no further than the block.
pub next_same : (c : Blocks) (count pending : ℕ) → count ≡ min c.count (length c.input)
    → (in_block (record c { count = count; pending = pending })).0 ≡ (in_block c).0
unfolding in_block
next_same c count pending e =
    rw e
    (elim (dec_lt c.at c.count) [
      | yes h ↦
          elim (dec_lt c.at (length c.input)) [
            | yes k ↦ rw (lt-ltb c.at c.count h, lt-ltb c.at (length c.input) k, lt-ltb c.at (min c.count (length c.input)) (omega arith))
            | no k ↦
                rw (
                  lt-ltb c.at c.count h,
                  le-ltb c.at (length c.input) (omega arith),
                  le-ltb c.at (min c.count (length c.input)) (omega arith),
                )
          ]
      | no h ↦ rw (le-ltb c.at c.count (omega arith), le-ltb c.at (min c.count (length c.input)) (omega arith))
    ])
