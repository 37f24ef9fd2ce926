-- `general::pow2` meets its contract: below 64 the shift loses nothing.
use mathlib.Core.Path.{◌∙◌, ap}
use Prim.Native.Nat.{ℕ, ◌%◌, ◌^◌}
use native.Mathlib.Nat.{one-mul, mod-eq_of_lt}
use borrow.Author.Rules.{rules}
use lib.Pow.{pow-lt}
use Rattle.general.proofs.pow2.Statement.{statement}
use Rattle.general.proofs.pow2.Tie as tie

returns : tie.Need-returns
returns c = ap (λ (n : ℕ). n % 2 ^ 64) (one-mul _) ∙ mod-eq_of_lt (pow-lt c.requires)

pub pow2_spec : {M : Type 1} → statement M
pow2_spec =
    tie.close
    (tie.spec
    (λ c. search rules)
    returns)
