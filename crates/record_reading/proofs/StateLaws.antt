-- Which states are possible, and which are finished, test by test.
use Rattle.std.specs.Prelude.{Err}
use mathlib.Core.Path.{◌≡◌}
use mathlib.Core.Bool.{Bool, true, false, not, ◌&&◌}
use Prim.Native.Nat.{ℕ, ◌≤◌, ◌<◌}
use lib.Dec.{ltb, eqb}
use borrow.Author.Tests.{lt-ltb, le-ltb, le-leb, lt-leb, leb-true}
use Rattle.general.proofs.Tests.{both}
use Rattle.refusal.specs.declared.Cause.{Cause}
use Rattle.refusal.proofs.Checks.{verdict-append}
use Rattle.design.specs.declared.Design.{Design}
use Rattle.design.specs.Legal.{design_verdict, Legal}
use Rattle.records.specs.IntelHex.{record_count}
use Rattle.records.specs.SetBytes.{byte_count, bytes_check, most_bytes}
use Rattle.record_reading.specs.declared.HexReading.{HexReading}
use Rattle.record_reading.specs.ReadRecord.{held_count, unused_fail, hex_possible, hex_finished}

-- The two tests of unused bytes: the first settles it where it fails,
module _ (k : ℕ) (state : HexReading) (first : Bool) (first-is : first ≡ eqb k 0 && not (eqb state.first 0)) where
  pub first-unused : first ≡ true → first ≡ unused_fail k state
  unfolding unused_fail
  first-unused e = rw (← first-is, e)

  -- and otherwise the second does.
  pub second-unused : first ≡ false → k < 2 → not (eqb state.second 0) ≡ unused_fail k state
  unfolding unused_fail
  second-unused e h = rw (← first-is, e, lt-ltb _ _ h)

  pub none-unused : first ≡ false → 2 ≤ k → ltb k 2 ≡ unused_fail k state
  unfolding unused_fail
  none-unused e h = rw (← first-is, e, le-ltb _ _ h)

-- A state is possible by its number of records, and then by its unused bytes.
module _ (total : ℕ) (state : HexReading) where
  pub too_many : record_count total < state.taken → hex_possible total state ≡ false
  unfolding hex_possible
  too_many h = rw (lt-leb _ _ h)

  pub by-unused : state.taken ≤ record_count total → hex_possible total state ≡ not (unused_fail (held_count total state.taken) state)
  unfolding hex_possible
  by-unused h = rw (le-leb _ _ h)

  -- What a possible state tells
  pub taken-within : hex_possible total state ≡ true → state.taken ≤ record_count total
  unfolding hex_possible
  taken-within e = leb-true _ _ (both _ _ e).0

-- A finished reading: the design is tried, then its bytes, then the state, and then the number of records.
module _ (d : Design) (state : HexReading) where
  pub illegal-unfinished : (cause : Cause) → design_verdict d ≡ Err cause → hex_finished d state ≡ false
  unfolding hex_finished design_verdict
  illegal-unfinished cause e = rw (verdict-append, e)

  module _ (legal : Legal d) where
    pub large-unfinished : most_bytes < byte_count d → hex_finished d state ≡ false
    unfolding hex_finished design_verdict bytes_check
    large-unfinished h = rw (verdict-append, legal, lt-ltb _ _ h)

    module _ (total : ℕ) (total-is : total ≡ byte_count d) (small : total ≤ most_bytes) where
      small-finished : hex_finished d state ≡ hex_possible total state && eqb state.taken (record_count total)
      unfolding hex_finished design_verdict bytes_check
      small-finished = rw (← total-is, verdict-append, legal, le-ltb _ _ small)

      pub impossible-unfinished : (answer : Bool) → answer ≡ hex_possible total state → answer ≡ false → answer ≡ hex_finished d state
      impossible-unfinished answer promise e = rw (small-finished, ← promise, e)

      pub finished-by-count : (count : ℕ) → count ≡ record_count total → hex_possible total state ≡ true
          → eqb state.taken count ≡ hex_finished d state
      finished-by-count count count-is e = rw (small-finished, e, count-is)
