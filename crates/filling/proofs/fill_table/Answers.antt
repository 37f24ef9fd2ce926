-- `filling::fill_table` meets its contract: the loop keeps `Segments`, the first n segments written.
use mathlib.Core.Path.{◌≡◌, ap, ◌∙◌}
use Prim.Native.Nat.{ℕ, ◌+◌, ◌*◌, ◌^◌, ◌≤◌, ◌<◌}
use native.Mathlib.Omega.{arith}
use Rattle.values.specs.declared.rows.Row.{Row}
use Rattle.design.specs.declared.Design.{Design}
use Rattle.design.specs.declared.Pair.{Pair}
use Rattle.design.specs.Cut.{pair_at, a_of}
use Rattle.design.specs.Stored.{offset_count}
use Rattle.design.proofs.LegalLaws.{limits, slopewise}
use Rattle.entries.specs.Entries.{hi_at, lo_at}
use Rattle.entries.proofs.EntryBounds.{offset-input}
use Rattle.filling.proofs.TableLaws.{slopes-are, segments-start, segments-next, segments-end, segment-room}
use Rattle.filling.proofs.fill_table.Goals as goal
use Rattle.filling.proofs.fill_table.Goals.{After-slope_sum-slopes}

-- This turn's segment is one of the table's, and lies within it.
module _ (d : Design) (i : ℕ) {pair : Pair} (pair-is : pair ≡ pair_at d i) {segments n : ℕ} (segments-told : segments ≡ 2 ^ pair.a)
    (n-lt : n < segments) where
  here : n < 2 ^ a_of d i
  here = rw (segments-told, pair-is) at n-lt

  inside : {size : ℕ} → size ≡ 2 ^ pair.b → n * size + size ≤ offset_count d i
  inside size-told = rw (size-told, pair-is) (segment-room d i n here)

pub pair-pair-requires : goal.pair-pair-requires
pair-pair-requires c = c.requires.i_lt

pub row_of-row-requires : goal.row_of-row-requires
row_of-row-requires c = (limits _ c.args.legal.legal).widths.kind-known

pub overflow_add-segments : goal.overflow_add-segments
overflow_add-segments c = omega (arith, (limits _ c.args.legal.legal).widths)

pub invariant_of-segments : goal.invariant_of-segments
invariant_of-segments c =
    rw (c.pair-pair.ensures, c.row_of-row.ensures) (record { fit = slopewise _ (limits _ c.args.legal.legal) _ c.requires.i_lt })

pub pow2-size-requires : goal.pow2-size-requires
pow2-size-requires c = rw c.pair-pair.ensures (omega (arith, (limits _ c.args.legal.legal).table _ c.requires.i_lt))

pub pow2-segment-end-requires : goal.pow2-segment-end-requires
pow2-segment-end-requires c = rw c.pair-pair.ensures (omega (arith, (limits _ c.args.legal.legal).table _ c.requires.i_lt))

pub loop-segment-init : goal.loop-segment-init
loop-segment-init c = segments-start _ _ _

pub overflow_mul-at : goal.overflow_mul-at
overflow_mul-at c =
    let fits = inside _ _ c.pair-pair.ensures c.pow2-segment-end.ensures c.loop-segment-test.true c.pow2-size.ensures in
    omega (arith, fits, c.requires.long, c.well_formed)

pub overflow_add-at : goal.overflow_add-at
overflow_add-at c =
    let fits = inside _ _ c.pair-pair.ensures c.pow2-segment-end.ensures c.loop-segment-test.true c.pow2-size.ensures in
    omega (arith, fits, c.requires.long, c.well_formed)

pub offset_bounds-table-at : goal.offset_bounds-table-at
offset_bounds-table-at c =
    let fits = inside _ _ c.pair-pair.ensures c.pow2-segment-end.ensures c.loop-segment-test.true c.pow2-size.ensures in
    omega (arith, fits, c.requires.long, c.well_formed)

pub slice_bounds-fill_segment-end : goal.slice_bounds-fill_segment-end
slice_bounds-fill_segment-end c =
    let fits = inside _ _ c.pair-pair.ensures c.pow2-segment-end.ensures c.loop-segment-test.true c.pow2-size.ensures in
    omega (arith, fits, c.requires.long)

-- its slopes are the design's
slopes-is : (c : After-slope_sum-slopes) → let a = c.args in
    c.slope_sum-slopes.result ≡ hi_at a.legal.design a.i c.loop-segment.segment + lo_at a.legal.design a.i c.loop-segment.segment
slopes-is c = slopes-are _ _ _ c.row_of-row.ensures (ap (λ (pair : Pair). pair.a) c.pair-pair.ensures) c.slope_sum-slopes.ensures

pub fill_segment-requires-clause-offset_input : goal.fill_segment-requires-clause-offset_input
fill_segment-requires-clause-offset_input c =
    rw (slopes-is c.before, c.pair-pair.ensures, c.requires.p-is)
    (offset-input _ (limits _ c.args.legal.legal) _ _ c.requires.i_lt
    (here _ _ c.pair-pair.ensures c.pow2-segment-end.ensures c.loop-segment-test.true))

pub loop-segment-preserved : goal.loop-segment-preserved
loop-segment-preserved c =
    segments-next _ _ c.requires.long c.loop-segment.invariant (slopes-is c.before.before.before)
    (ap (λ (pair : Pair). pair.b) c.pair-pair.ensures) c.requires.p-is (ap (λ (row : Row). row.rising) c.row_of-row.ensures)
    (here _ _ c.pair-pair.ensures c.pow2-segment-end.ensures c.loop-segment-test.true)
    (ap (λ (size : ℕ). c.loop-segment.segment * size) c.pow2-size.ensures) (omega (arith, c.pow2-size.ensures)) c.fill_segment.ensures

pub returns : goal.returns
returns c =
    let end : c.loop-segment.segment ≡ c.pow2-segment-end.result = omega arith in
    segments-end _ _ c.requires.long c.loop-segment.invariant (end ∙ rw c.pair-pair.ensures at c.pow2-segment-end.ensures)
