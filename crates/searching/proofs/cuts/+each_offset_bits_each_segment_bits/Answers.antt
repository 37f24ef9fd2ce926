-- The goals of the two functions that call each other: the turns of b and of a, by the laws of TurnLaws.
use mathlib.Core.Path.{◌≡◌, refl, sym, ap, ◌∙◌}
use mathlib.Core.List.{List}
use Prim.Native.Nat.{ℕ, ◌+◌, ◌-◌, ◌*◌, ◌<◌}
use native.Mathlib.Nat.{lt_of_le_of_lt, le-add_right}
use native.Mathlib.Omega.{arith}
use Rattle.values.specs.declared.slopes.LargestSlopes.{LargestSlopes}
use Rattle.design.specs.declared.Design.{Design}
use Rattle.searching.specs.Designs.{with_pair}
use Rattle.searching.specs.Search.{SlopesFor, Least}
use Rattle.searching.proofs.BestLaws.{is-reached}
use Rattle.searching.proofs.TurnLaws.{
  turn-fits,
  turns-begin,
  left-many,
  left-large,
  turn-taken,
  turns-end,
  next-open,
  next-kept,
  budget-fits,
  over-a-begin,
  over-a-turn,
  over-a-end,
}
use Rattle.searching.proofs.cuts.+each_offset_bits_each_segment_bits.Goals as goal
use Rattle.searching.proofs.cuts.+each_offset_bits_each_segment_bits.Goals.{
  each_offset_bits-then-not-is_fewer-via-then-not-is_fewer,
  each_offset_bits-then-not-is_fewer-via-else-not-is_fewer+then-prefix-budget,
}

-- what is the same of the design with a table more, and that fewer are left
module _ (d : Design) (i a b : ℕ) (next : Design) (next-is : next ≡ with_pair d i a b) where
  slopes-same : (slopes : List LargestSlopes) → SlopesFor d slopes → SlopesFor next slopes
  unfolding with_pair
  slopes-same slopes known = rw next-is known

  least_kept : (least : ℕ) → Least d least → Least next least
  unfolding with_pair
  least_kept least none_below = rw next-is none_below

  fewer-left : (t : ℕ) → 2 * (d.m - i) ≡ t → i < d.m → 2 * (next.m - (i + 1)) + 1 < t
  unfolding with_pair
  fewer-left t is more = rw next-is (omega arith)

  more-left : i + 1 < d.m → i + 1 < next.m
  unfolding with_pair
  more-left more = rw next-is more

pub each_offset_bits-loop-b-init : goal.each_offset_bits-loop-b-init
each_offset_bits-loop-b-init t c =
    let p = c.args.prefix.now in
    let g = c.requires.le_a in
    turns-begin _ _ p.so_far c.requires.more _ g.0 g.1 g.2 _ _ p.kept.position_is refl _ _ c.least_offset_bits-first.ensures
    (ap (λ (n : ℕ). n + 1) c.most_offset_bits-end.ensures) _

pub each_offset_bits-overflow_add-budget : goal.each_offset_bits-overflow_add-budget
each_offset_bits-overflow_add-budget t c =
    let p = c.args.prefix.now in
    let g = c.requires.le_a in
    let first-is = c.least_offset_bits-first.ensures in
    let end_is = ap (λ (n : ℕ). n + 1) c.most_offset_bits-end.ensures in
    let fit = turn-fits _ _ p.so_far c.requires.more _ g.0 g.1 g.2 _ _ p.kept.position_is refl _ _ first-is end_is _ c.loop-b.invariant.from
    c.loop-b-test.true in
    record {
      fits = budget-fits _ _ p.so_far c.requires.more _ g.0 g.1 g.2 _ _ p.kept.position_is refl _ _ first-is end_is _ _ _ _ fit p.none_below
          c.budget_with-budget.ensures c.rest_from.ensures;
    }

pub each_offset_bits-returns-then-not-is_fewer : goal.each_offset_bits-returns-then-not-is_fewer
each_offset_bits-returns-then-not-is_fewer t c =
    let p = c.args.prefix.now in
    let g = c.requires.le_a in
    let first-is = c.least_offset_bits-first.ensures in
    let end_is = ap (λ (n : ℕ). n + 1) c.most_offset_bits-end.ensures in
    elim c.then-not-is_fewer.branch [
      | each_offset_bits-then-not-is_fewer-via-then-not-is_fewer w ↦
          sym (left-many _ _ p.so_far c.requires.more _ g.0 g.1 g.2 _ _ p.kept.position_is refl _ _ first-is end_is _ _ _ c.loop-b.invariant
          c.loop-b-test.true _ c.size_with-bits.ensures (is-reached _ _ (sym c.is_fewer.ensures ∙ w.if-not-is_fewer.true)))
      | each_offset_bits-then-not-is_fewer-via-else-not-is_fewer+then-prefix-budget w ↦
          sym (left-large _ _ p.so_far c.requires.more _ g.0 g.1 g.2 _ _ p.kept.position_is refl _ _ first-is end_is _ _ _ c.loop-b.invariant
          c.loop-b-test.true _ _ _ _ p.none_below c.budget_with-budget.ensures w.rest_from.ensures p.kept.limit_is w.if-prefix-budget.true)
    ]

pub each_offset_bits-invariant_of-next : goal.each_offset_bits-invariant_of-next
each_offset_bits-invariant_of-next t c =
    let p = c.args.prefix.now in
    let g = c.requires.le_a in
    let first-is = c.least_offset_bits-first.ensures in
    let end_is = ap (λ (n : ℕ). n + 1) c.most_offset_bits-end.ensures in
    record {
      kept = next-kept _ _ p.so_far c.requires.more _ g.0 g.1 g.2 _ _ p.kept.position_is refl _ _ first-is end_is _ _ _ _ _
          c.with_pair.ensures c.size_with-bits.ensures c.budget_with-budget.ensures p.kept.limit_is;
      so_far = next-open _ _ p.so_far c.requires.more _ g.0 g.1 g.2 _ _ p.kept.position_is refl _ _ first-is end_is _ _ _ _
          c.loop-b.invariant.from c.loop-b-test.true c.with_pair.ensures c.budget_with-budget.ensures p.kept.limit_is
          (lt_of_le_of_lt (le-add_right _ _) c.if-prefix-budget.false);
      none_below = least_kept _ _ _ _ _ c.with_pair.ensures _ p.none_below;
      known = slopes-same _ _ _ _ _ c.with_pair.ensures _ p.known;
    }

pub each_offset_bits-each_segment_bits-found-requires : goal.each_offset_bits-each_segment_bits-found-requires
each_offset_bits-each_segment_bits-found-requires t c = (
  fewer-left _ _ _ _ _ c.with_pair.ensures t c.decreases (omega (arith, c.requires.more)),
  more-left _ _ _ _ _ c.with_pair.ensures c.requires.more,
)

pub each_offset_bits-loop-b-preserved : goal.each_offset_bits-loop-b-preserved
each_offset_bits-loop-b-preserved t c =
    let p = c.args.prefix.now in
    let g = c.requires.le_a in
    let first-is = c.least_offset_bits-first.ensures in
    let end_is = ap (λ (n : ℕ). n + 1) c.most_offset_bits-end.ensures in
    turn-taken _ _ p.so_far c.requires.more _ g.0 g.1 g.2 _ _ p.kept.position_is refl _ _ first-is end_is _ _ _ _ _ c.loop-b.invariant
    c.loop-b-test.true c.with_pair.ensures c.each_segment_bits-found.ensures

pub each_offset_bits-returns : goal.each_offset_bits-returns
each_offset_bits-returns t c =
    let p = c.args.prefix.now in
    let g = c.requires.le_a in
    let first-is = c.least_offset_bits-first.ensures in
    let end_is = ap (λ (n : ℕ). n + 1) c.most_offset_bits-end.ensures in
    sym (turns-end _ _ p.so_far c.requires.more _ g.0 g.1 g.2 _ _ p.kept.position_is refl _ _ first-is end_is _ _ _ c.loop-b.invariant
    c.loop-b-test.false)

pub each_segment_bits-loop-a-init : goal.each_segment_bits-loop-a-init
each_segment_bits-loop-a-init t c =
    let p = c.args.prefix.now in
    over-a-begin _ _ p.so_far c.requires _ c.min-end.ensures _

pub each_segment_bits-each_offset_bits-found-requires : goal.each_segment_bits-each_offset_bits-found-requires
each_segment_bits-each_offset_bits-found-requires t c =
    let one_less : 2 * (c.args.prefix.now.design.m - c.args.prefix.now.tables) < t = omega (arith, c.decreases) in
    (one_less, (omega (arith, c.requires, c.if-prefix.false), (omega arith, omega arith, omega arith)))

pub each_segment_bits-loop-a-preserved : goal.each_segment_bits-loop-a-preserved
each_segment_bits-loop-a-preserved t c =
    let p = c.args.prefix.now in
    over-a-turn _ _ p.so_far c.requires _ c.min-end.ensures _ _ _ _ c.loop-a.invariant c.loop-a-test.true c.each_offset_bits-found.ensures

pub each_segment_bits-returns : goal.each_segment_bits-returns
each_segment_bits-returns t c =
    let p = c.args.prefix.now in
    sym (over-a-end _ _ p.so_far c.requires _ c.min-end.ensures _ _ _ c.loop-a.invariant c.loop-a-test.false)
