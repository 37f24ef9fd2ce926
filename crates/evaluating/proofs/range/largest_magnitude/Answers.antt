-- `evaluating::range::largest_magnitude` meets its contract: after i turns `largest` is the largest over the first i offsets.
use mathlib.Core.Path.{◌≡◌, refl, ap, ◌∙◌}
use Prim.Native.Nat.{ℕ, ◌+◌, max}
use native.Mathlib.Omega.{arith}
use lib.ListN.{get_or}
use lib.IntN.{pos}
use lib.Signed.{mag}
use mir.Syntax.{w32}
use mir.ValLaws.{to_z-of_z}
use Rattle.std.proofs.Common.{rules}
use Rattle.general.specs.Below.{largest}
use Rattle.general.proofs.Sums.{largest-next}
use Rattle.evaluating.proofs.range.largest_magnitude.Goals as goal

-- one offset more
next : (f : ℕ → ℕ) (n most here : ℕ) → most ≡ largest n f → here ≡ f n → max here most ≡ largest (n + 1) f
next f n most here most-is here-is = omega (arith, largest-next n f, most-is, here-is)

pub loop-offset-init : goal.loop-offset-init
unfolding largest
loop-offset-init c = refl

pub loop-offset-preserved : goal.loop-offset-preserved
loop-offset-preserved c =
    let read = to_z-of_z w32 (get_or c.args.offsets.now c.loop-offset.offset-index (pos 0)) (search rules) in
    rw c.max-largest.ensures (next _ _ _ _ c.loop-offset.invariant (c.magnitude.ensures ∙ ap mag read))
