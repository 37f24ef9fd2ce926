-- `evaluating::range::some_outside` meets its contract: what `any` finds is what the definition asks of each entry.
use mathlib.Core.Path.{◌≡◌, sym}
use mathlib.Core.Bool.{Bool, true, false}
use mathlib.Core.List.{List}
use Prim.Native.Nat.{ℕ, ◌<◌}
use native.Mathlib.Omega.{arith}
use lib.ListN.{length, get_or}
use Rattle.std.proofs.Common.{rules}
use Rattle.std.specs.Bool.{MatchBool}
use Rattle.std.specs.List.{AllWithin, HoldsAt}
use Rattle.std.proofs.lemmas.Iterator.{cases_from_any, YieldsList-from_slice}
use Rattle.general.specs.Below.{some_below}
use Rattle.general.proofs.Sums.{none_of, some_of}
use Rattle.refusal.specs.Checks.{outside}
use Rattle.evaluating.proofs.range.some_outside.Goals as goal

module _ (low high : ℕ) (initial : List ℕ) where
  found : (r : Bool)
      → MatchBool r ((k : ℕ) × (k < length initial) × HoldsAt (λ (n : ℕ). outside low high n ≡ true) initial k)
      (AllWithin (λ (n : ℕ). outside low high n ≡ false) initial 0 (length initial))
      → r ≡ some_below (length initial) (λ (i : ℕ). outside low high (get_or initial i 0))
  found true some = sym (some_of _ _ some.0 some.1 (some.2 0))
  found false none = sym (none_of _ _ (λ i h. none i 0 (omega arith) h))

pub returns : goal.returns
returns c =
    found c.args.low c.args.high c.args.initial.now _
    (cases_from_any _ _ _ (λ n. outside c.args.low c.args.high n ≡ true) (λ n. outside c.args.low c.args.high n ≡ false) c.any.ensures.ran
    (YieldsList-from_slice c.args.initial.now cc) (λ x q k. search rules) (λ x q k. search rules))
