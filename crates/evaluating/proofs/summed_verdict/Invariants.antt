-- `evaluating::summed_verdict` meets its contract: every word before the present one passed, so the first that does not is the lowest.
use Rattle.std.specs.Prelude.{Ok}
use mathlib.Core.Path.{◌≡◌}
use Prim.Native.Nat.{ℕ, ◌<◌}
use Rattle.evaluating.specs.Batch.{place_verdict}
use Rattle.evaluating.proofs.summed_verdict.Given as goal

abbrev pub invariant-loop-place : goal.invariant-loop-place
invariant-loop-place l =
    (j : ℕ) → j < l.place → place_verdict l.set.tables.design l.set.initial.now l.set.tables.offsets.now l.words j ≡ Ok tt
