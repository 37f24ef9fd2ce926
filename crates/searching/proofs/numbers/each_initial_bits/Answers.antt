-- `searching::numbers::each_initial_bits` meets its contract: before the turn of alpha, the best is that of all alpha before it.
use Rattle.std.specs.Prelude.{Option}
use mathlib.Core.Path.{◌≡◌, sym, ◌∙◌}
use Prim.Native.Nat.{ℕ, ◌+◌, ◌≤◌, ◌<◌, min}
use native.Mathlib.Omega.{arith}
use Rattle.general.specs.Below.{for_each}
use Rattle.design.specs.Limits.{least_initial_bits, most_initial_bits, most_tables}
use Rattle.searching.specs.declared.SizedDesign.{SizedDesign}
use Rattle.searching.specs.Designs.{bare, continued}
use Rattle.searching.specs.Best.{best_of}
use Rattle.searching.specs.Search.{with_tables}
use Rattle.searching.proofs.BestLaws.{best-first, best-one, best-rest}
use Rattle.searching.proofs.BeginLaws.{by-alpha, no-alpha}
use Rattle.searching.proofs.numbers.each_initial_bits.Invariants.{Inv}
use Rattle.searching.proofs.numbers.each_initial_bits.Goals as goal

module _ (kind w q g end : ℕ) (end_is : end ≡ min w (most_initial_bits + 1)) (best found : Option SizedDesign) (alpha : ℕ)
    (inv : Inv kind w q g best found alpha) where
  -- the designs of which alpha is chosen
  turn : (now : Option SizedDesign) → alpha < end
      → now ≡ best_of found (for_each 1 most_tables (λ m. continued m (with_tables (bare kind w q g alpha 0) m) 0)) → Inv kind w q g best now (alpha + 1)
  unfolding bare
  turn now below e =
      record {
        low = omega (arith, inv.low);
        high = omega (arith, end_is, below);
        so_far = best-one least_initial_bits (by-alpha kind w q g) best found alpha inv.low inv.so_far ∙ sym e;
      }

  done : end ≤ alpha → best_of best (for_each least_initial_bits most_initial_bits (by-alpha kind w q g)) ≡ found
  done ended =
      best-rest least_initial_bits (by-alpha kind w q g) best found alpha (most_initial_bits + 1) inv.low inv.high
      inv.so_far (λ other from to. no-alpha kind w q g found other (omega (arith, end_is, ended, from, to)))

pub loop-alpha-init : goal.loop-alpha-init
loop-alpha-init c = record { low = omega arith; high = omega arith; so_far = best-first least_initial_bits _ _ }

pub loop-alpha-preserved : goal.loop-alpha-preserved
unfolding bare
loop-alpha-preserved c =
    turn _ _ _ _ _ c.min-end.ensures _ _ _ c.loop-alpha.invariant _ c.loop-alpha-test.true c.each_table_count-found.ensures

pub returns : goal.returns
returns c = sym (done _ _ _ _ _ c.min-end.ensures _ _ _ c.loop-alpha.invariant c.loop-alpha-test.false)
