-- `searching::prefix::Prefix::budget_with` meets its contract: a table more adds its reach times the largest spread by its a.
use mathlib.Core.Path.{◌≡◌, sym, ap}
use mathlib.Core.List.{List}
use Prim.Native.Nat.{ℕ, ◌+◌, ◌-◌, ◌*◌, ◌^◌, ◌<◌}
use native.Mathlib.Nat.{lt_trans, lt_of_le_of_lt}
use native.Mathlib.Omega.{arith}
use lib.Dec.{lit<}
use lib.ListN.{get_or}
use Rattle.values.specs.declared.slopes.LargestSlopes.{LargestSlopes}
use Rattle.values.specs.Slopes.{largest_spread}
use Rattle.design.specs.declared.Design.{Design}
use Rattle.design.specs.Cut.{row, fraction_bits, position}
use Rattle.searching.specs.Designs.{with_pair}
use Rattle.searching.specs.Search.{no_slopes, budget_before, Kept, Open, Fitting, SlopesFor}
use Rattle.searching.proofs.OpenLaws.{budget-next}
use Rattle.searching.proofs.SmallLaws.{widths, reach_few, share-few, budget-few}
use Rattle.searching.proofs.prefix.Prefix.budget_with.Goals as goal

-- the factors that the calls and the lookup give, as the definition has them
module _ (d : Design) (i at bits so_far most a b high low : ℕ) (kept : Kept d i at bits so_far most) (o : Open d i) (more : i < d.m)
    (fit : Fitting d i a b) (high_is : high ≡ 2 ^ b) (low-is : low ≡ 2 ^ at) where
  reach-is : (high - 1) * low ≡ (2 ^ b - 1) * 2 ^ position d i
  reach-is = rw (high_is, low-is, kept.position_is)

  module _ (slopes : List LargestSlopes) (known : SlopesFor d slopes) where
    spread-is : (get_or slopes a no_slopes).spread ≡ largest_spread (row d) d.w (fraction_bits d) a
    spread-is =
        ap (λ (largest : LargestSlopes). largest.spread)
        (known a fit.a-low (omega (arith, fit.b-low, fit.sum-high)) (omega (arith, fit.a-high, o.begun.started.alpha-below)))

    share-is : (high - 1) * low * (get_or slopes a no_slopes).spread
        ≡ (2 ^ b - 1) * 2 ^ position d i * largest_spread (row d) d.w (fraction_bits d) a
    share-is = rw (reach-is, spread-is)

    grown : so_far + (high - 1) * low * (get_or slopes a no_slopes).spread ≡ budget_before (with_pair d i a b) (i + 1)
    grown = let begun = o.begun in rw (share-is, kept.budget-is) (sym (budget-next d i a b more begun.places begun.m-high))

pub returns : goal.returns
returns c =
    let s = c.args.self.now in
    grown _ _ _ _ _ _ _ _ _ _ s.kept s.so_far c.requires.0 c.requires.1 c.pow2.ensures c.pow2-2.ensures _ s.known

pub pow2-requires-2 : goal.pow2-requires-2
pow2-requires-2 c =
    let s = c.args.self.now in
    omega (arith, s.kept.position_is, c.requires.1.left-low, (widths _ s.so_far.begun).room.w-small)

pub overflow_mul-reach : goal.overflow_mul-reach
overflow_mul-reach c =
    let s = c.args.self.now in
    rw (reach-is _ _ _ _ _ _ _ _ _ _ s.kept s.so_far c.requires.0 c.requires.1 c.pow2.ensures c.pow2-2.ensures)
    (record { fits = lt_trans (reach_few _ _ s.so_far _ _ c.requires.1) (lit< tt) })

pub overflow_mul-result : goal.overflow_mul-result
overflow_mul-result c =
    let s = c.args.self.now in
    rw (share-is _ _ _ _ _ _ _ _ _ _ s.kept s.so_far c.requires.0 c.requires.1 c.pow2.ensures c.pow2-2.ensures _ s.known)
    (record { fits = lt_of_le_of_lt (share-few _ _ s.so_far _ _ c.requires.1) (lit< tt) })

pub overflow_add-result : goal.overflow_add-result
overflow_add-result c =
    let s = c.args.self.now in
    omega (
      arith,
      share-is _ _ _ _ _ _ _ _ _ _ s.kept s.so_far c.requires.0 c.requires.1 c.pow2.ensures c.pow2-2.ensures _ s.known,
      share-few _ _ s.so_far _ _ c.requires.1,
      s.kept.budget-is,
      s.so_far.within,
      budget-few _ _ s.so_far,
    )
