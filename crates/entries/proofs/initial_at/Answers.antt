-- `entries::initial_at` meets its contract: both ends lie on the interval, and their values are small.
use mathlib.Core.Path.{◌≡◌}
use Prim.Native.Nat.{ℕ, ◌+◌, ◌-◌, ◌*◌, ◌/◌, ◌^◌, ◌≤◌, ◌<◌}
use native.Mathlib.Omega.{arith}
use Rattle.values.specs.Room.{floor_bound, entry_bound}
use Rattle.values.specs.Inputs.{InRange, SegmentInput}
use Rattle.values.specs.Slopes.{segment_start, segment_end}
use Rattle.values.proofs.Bounds.{segment-input, start-input, end-input}
use Rattle.design.specs.declared.Design.{Design}
use Rattle.design.specs.Stored.{initial_count}
use Rattle.design.specs.Legal.{Legal}
use Rattle.design.proofs.LegalLaws.{limits}
use Rattle.entries.specs.Entries.{value_at, end_values, initial_at}
use Rattle.entries.proofs.EntryBounds.{interval-input, unit-small, half-sum-below}
use Rattle.entries.proofs.initial_at.Goals as goal
use Rattle.entries.proofs.initial_at.Goals.{After-pow2, After-segment_end-end}

module _ (d : Design) (A : ℕ) (legal : Legal d) (A-lt : A < initial_count d) where
  interval : SegmentInput d.w d.alpha A
  unfolding initial_count
  interval = segment-input (interval-input d (limits d legal)) A-lt

  module _ (start end : ℕ) (start_is : start ≡ segment_start d.w d.alpha A) (end_is : end ≡ segment_end d.w d.alpha A) where
    ranges : InRange d.w start × InRange d.w end
    unfolding initial_count
    ranges =
        let fit = interval-input d (limits d legal) in
        rw (start_is, end_is) ((start-input _ _ _ _ A fit A-lt).range, (end-input _ _ _ _ A fit A-lt).range)

    entry-is : (first last unit : ℕ) → first ≡ value_at d start → last ≡ value_at d end → unit ≡ 2 ^ (d.g - 1)
        → (first + last + 1 + d.m) / 2 + unit ≡ initial_at d A
    unfolding initial_at end_values
    entry-is first last unit first-is last-is unit-is = rw (first-is, last-is, unit-is, start_is, end_is)

pub returns : goal.returns
returns c =
    let b = c.before.before.before in
    let e = b.before.before in
    let s = e.before.before in
    entry-is _ _ s.args.legal.legal s.requires.1 _ _ e.segment_start-start.ensures e.segment_end-end.ensures _ _ _
    b.value_at.ensures.0 b.value_at-2.ensures.0 c.pow2.ensures

pub segment_start-start-requires : goal.segment_start-start-requires
segment_start-start-requires c = interval _ _ c.args.legal.legal c.requires.1

pub segment_end-end-requires : goal.segment_end-end-requires
segment_end-end-requires c = interval _ _ c.args.legal.legal c.requires.1

both_ends : (c : After-segment_end-end) → let a = c.args in
    InRange a.legal.design.w c.segment_start-start.result × InRange a.legal.design.w c.segment_end-end.result
both_ends c =
    let s = c.before.before in
    ranges _ _ s.args.legal.legal s.requires.1 _ _ c.segment_start-start.ensures c.segment_end-end.ensures

pub value_at-requires : goal.value_at-requires
value_at-requires c = (c.requires.0, (both_ends c).0)

pub value_at-requires-2 : goal.value_at-requires-2
value_at-requires-2 c = (c.requires.0, (both_ends c.before).1)

pub overflow_sub-d : goal.overflow_sub-d
overflow_sub-d c = omega (arith, (limits _ c.args.legal.legal).widths)

pub pow2-requires : goal.pow2-requires
pow2-requires c = omega (arith, (limits _ c.args.legal.legal).widths)

-- the half unit
half-unit : (c : After-pow2) → c.pow2.result * 2 ≤ floor_bound
half-unit c = rw c.pow2.ensures (unit-small _ (limits _ c.args.legal.legal))

-- so the entry is small
entry-small : (c : After-pow2) → let values = c.before.before.before in
    (values.value_at.result + values.value_at-2.result + 1 + values.args.legal.design.m) / 2
    + c.pow2.result < entry_bound
entry-small c =
    let values = c.before.before.before in
    let l = limits _ values.args.legal.legal in
    half-sum-below floor_bound _ _ _ _ values.value_at.ensures.1 values.value_at-2.ensures.1 l.m-high (half-unit c)
    (omega arith)

pub overflow_add-result-3 : goal.overflow_add-result-3
overflow_add-result-3 c = omega (arith, entry-small c)

pub overflow_cast-result-2 : goal.overflow_cast-result-2
overflow_cast-result-2 c = omega (arith, entry-small c)
