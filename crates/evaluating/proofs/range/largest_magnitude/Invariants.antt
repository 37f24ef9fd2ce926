-- `evaluating::range::largest_magnitude` meets its contract: after i turns `largest` is the largest over the first i offsets.
use mathlib.Core.Path.{◌≡◌}
use Prim.Native.Nat.{ℕ}
use lib.ListN.{get_or}
use lib.IntN.{pos}
use lib.Signed.{mag}
use Rattle.general.specs.Below.{largest}
use Rattle.evaluating.proofs.range.largest_magnitude.Given as goal

abbrev pub invariant-loop-offset : goal.invariant-loop-offset
invariant-loop-offset l = l.largest ≡ largest l.offset-index (λ (i : ℕ). mag (get_or l.offsets i (pos 0)))
