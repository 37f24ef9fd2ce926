-- `values::slopes::Segments::largest` meets its contract: after n turns both numbers are the largest over the first n segments.
use mathlib.Core.Path.{◌≡◌, refl, sym, ap₂, ◌∙◌}
use Prim.Native.Nat.{ℕ, ◌+◌, ◌-◌, ◌^◌, ◌≤◌, ◌<◌, max}
use native.Mathlib.Omega.{arith}
use lib.Pow.{pow_mono}
use Rattle.general.specs.Below.{largest}
use Rattle.general.proofs.Sums.{largest-next}
use Rattle.values.specs.declared.rows.Row.{Row}
use Rattle.values.specs.declared.slopes.SlopeBounds.{SlopeBounds}
use Rattle.values.specs.Room.{widest_word, word_bound}
use Rattle.values.specs.Inputs.{SlopeInput}
use Rattle.values.specs.Slopes.{segment_start, segment_end, hi, lo, spread, largest_spread, slope_sum, largest_sum}
use Rattle.values.proofs.Bounds.{ordered, slopes-small}
use Rattle.values.proofs.slopes.Segments.largest.Goals as goal

-- the bounds of a segment, as the call gives them
module _ (row : Row) (w P a A : ℕ) (here : SlopeBounds)
    (is : here ≡ record { hi = hi row w P (segment_start w a A); lo = lo row w P (segment_end w a A) }) where
  spread-here : here.hi - here.lo ≡ spread row w P a A
  unfolding spread
  spread-here = rw is

  sum-here : here.hi + here.lo ≡ slope_sum row w P a A
  unfolding slope_sum
  sum-here = rw is

  module _ (fit : SlopeInput row w P a) (A-lt : A < 2 ^ a) where
    lo-below : here.lo ≤ here.hi
    lo-below = rw is (ordered row w P a A fit A-lt).1

    sum_fits : here.hi + here.lo < 2 ^ 64
    sum_fits = rw is (omega (arith, slopes-small row w P a A fit A-lt))

pub pow2-segment-end-requires : goal.pow2-segment-end-requires
pow2-segment-end-requires c = omega arith

pub loop-segment-init : goal.loop-segment-init
unfolding largest
loop-segment-init c = record { spread-is = refl; sum_is = refl; within = omega arith; all = c.pow2-segment-end.ensures }

pub bounds_of-here-requires : goal.bounds_of-here-requires
bounds_of-here-requires c = omega arith

pub overflow_sub-here : goal.overflow_sub-here
overflow_sub-here c =
    let b = c.before in
    lo-below _ _ _ _ _ _ b.bounds_of-here.ensures b.args.self.fit (omega arith)

pub overflow_add-here : goal.overflow_add-here
overflow_add-here c =
    let b = c.before.before.before in
    record { fits = sum_fits _ _ _ _ _ _ b.bounds_of-here.ensures b.args.self.fit (omega arith) }

-- the number of segments fits, with room for the last step
room : (a w : ℕ) → a ≤ w → w ≤ widest_word → 2 ^ a ≤ word_bound
room a w h wide = pow_mono {j = widest_word} (omega arith)

pub overflow_step-segment : goal.overflow_step-segment
overflow_step-segment c =
    let fit = c.args.self.fit in
    omega (arith, room _ _ fit.a_small fit.room.w-small)

pub loop-segment-smaller : goal.loop-segment-smaller
loop-segment-smaller c = omega arith

pub loop-segment-preserved : goal.loop-segment-preserved
loop-segment-preserved c =
    let b = c.before.before.before.before in
    let inv = b.loop-segment.invariant in
    record {
      spread-is = c.max-spread.ensures ∙ ap₂ max inv.spread-is (spread-here _ _ _ _ _ _ b.bounds_of-here.ensures)
          ∙ sym (largest-next _ (spread _ _ _ _));
      sum_is = c.max-sum.ensures ∙ ap₂ max inv.sum_is (sum-here _ _ _ _ _ _ b.bounds_of-here.ensures)
          ∙ sym (largest-next _ (slope_sum _ _ _ _));
      within = omega arith;
      all = inv.all;
    }

pub returns : goal.returns
unfolding largest_spread largest_sum
returns c =
    let inv = c.loop-segment.invariant in
    let e : c.loop-segment.segment ≡ 2 ^ c.args.self.a = omega arith in
    rw (inv.spread-is, inv.sum_is, e)
