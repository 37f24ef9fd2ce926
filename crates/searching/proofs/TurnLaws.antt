-- The turns of the loops over b and over a of the next table, by what is kept of a design.
use Rattle.std.specs.Prelude.{Option}
use mathlib.Core.Path.{◌≡◌, sym, ◌∙◌}
use mathlib.Core.List.{List}
use Prim.Native.Nat.{ℕ, suc, ◌+◌, ◌-◌, ◌*◌, ◌^◌, ◌≤◌, ◌<◌, min, max}
use native.Mathlib.Nat.{le_refl, le_step, le_trans, le_of_lt, lt_of_le_of_lt, le-add_right}
use native.Mathlib.Numerals.{add-one}
use native.Mathlib.Omega.{arith}
use Rattle.general.specs.Below.{joined, for_each}
use Rattle.values.specs.Slopes.{largest_spread}
use Rattle.design.specs.declared.Design.{Design}
use Rattle.design.specs.Limits.{most_offset_bits, most_table_bits}
use Rattle.design.specs.Cut.{row, fraction_bits, position}
use Rattle.design.specs.Budget.{limit, Admitted}
use Rattle.design.proofs.LegalLaws.{limits}
use Rattle.design.proofs.BudgetLaws.{share_bound}
use Rattle.searching.specs.declared.SizedDesign.{SizedDesign}
use Rattle.searching.specs.Designs.{with_pair, continued}
use Rattle.searching.specs.Best.{best_of}
use Rattle.searching.specs.Search.{size_before, budget_before, rest_from, Kept, Open, Fitting, Least}
use Rattle.searching.proofs.BestLaws.{Reached, best-first, best-one}
use Rattle.searching.proofs.PrefixLaws.{Agrees, position-same, budget-before-same}
use Rattle.searching.proofs.OpenLaws.{position-next, budget-next, open_next}
use Rattle.searching.proofs.RestLaws.{with_rest, rest-within}
use Rattle.searching.proofs.SmallLaws.{rest-few, budget-few, share-few}
use Rattle.searching.proofs.TableLaws.{fits, first-b, last-b, last-a, still-many}

one-higher : {b k : ℕ} → b ≤ k → b + 1 ≤ k + 1
one-higher h = omega arith

-- What is left for a table and the later ones, in plain numbers: p bits are taken of all.
module _ (p all later left b : ℕ) (left_is : left ≡ all - p) where
  least-b : (first : ℕ) → first ≡ max 1 (left - later * most_offset_bits) → first ≤ b → (1 ≤ b) × (all ≤ p + b + later * most_offset_bits)
  least-b first is from = (omega arith, omega arith)

  below-least : (first : ℕ) → first ≡ max 1 (left - later * most_offset_bits) → b < first → 1 ≤ b → all ≤ p + b + later * most_offset_bits → ⊥
  below-least first is below one high = omega arith

  module _ (a end : ℕ) (is : end ≡ min most_offset_bits (min (left - later) (most_table_bits - a)) + 1) where
    most-b : b < end → a < most_table_bits → later < left → (b ≤ most_offset_bits) × (a + b ≤ most_table_bits) × (p + b + later ≤ all)
    most-b below few more = (omega arith, omega arith, omega arith)

    above_most : end ≤ b → b ≤ most_offset_bits → a + b ≤ most_table_bits → p + b + later ≤ all → ⊥
    above_most from high few low = omega arith

-- so there is a bit for each later table and one more
bits-for-all : (p all m i left : ℕ) → i < m → p + (m - i) ≤ all → left ≡ all - p → m - (i + 1) < left
bits-for-all p all m i left more low is = omega arith

least-high : (p all m i left first : ℕ) → i < m → all ≤ p + (m - i) * most_offset_bits → left ≡ all - p
    → first ≡ max 1 (left - (m - (i + 1)) * most_offset_bits) → first ≤ most_offset_bits
least-high p all m i left first more high left_is is =
    let later = m - (i + 1) in
    let one_more : m - i ≡ later + 1 = omega arith in
    at_most later (rw one_more at high) is where
      at_most : (later : ℕ) → all ≤ p + (later + 1) * most_offset_bits → first ≡ max 1 (left - later * most_offset_bits)
          → first ≤ most_offset_bits
      at_most later high is = omega arith

no_room : (limit share rest sum share' rest' : ℕ) → limit ≤ sum + share + rest → share + rest ≤ share' + rest'
    → sum + share' + rest' < limit → ⊥
no_room limit share rest sum share' rest' large larger within = omega arith

sum_fits : (budget rest sum share most : ℕ) → budget ≡ sum + share → rest ≤ share_bound → sum < most → most ≤ 2 ^ 38 → share ≤ share_bound
    → budget + rest < 2 ^ 64
sum_fits budget rest sum share most is few within most-few share-few = omega arith

-- What no spread is below for a design is so for one that agrees with it.
pub least-same : (d e : Design) (i : ℕ) → Agrees d e i → (least : ℕ) → Least d least → Least e least
least-same d e i same least none_below a one high few =
    rw (← same.kind, ← same.w, ← same.q, ← same.g) (none_below a one (rw same.alpha high) few)

-- The loop over b, before the turn of b: the best over those before
pub record OverB (d : Design) (i a later first : ℕ) (best found : Option SizedDesign) (b : ℕ) : Type 0 where
  pub from : first ≤ b
  pub high : b ≤ most_offset_bits + 1
  pub so_far : best_of best (joined 1 (b - 1) (λ b. continued later (with_pair d i a b) (i + 1))) ≡ found

-- Where there are later tables, and `a` is chosen
module _ (d : Design) (i : ℕ) (o : Open d i) (more : i + 1 < d.m) (a : ℕ) (a-low : 1 ≤ a) (a-high : a ≤ d.alpha) (a-few : a < most_table_bits)
    (at left : ℕ) (at-is : at ≡ position d i) (left_is : left ≡ d.w - d.alpha - at) where
  abbrev later : ℕ
  later = d.m - (i + 1)

  abbrev by : ℕ → List Design
  by b = continued later (with_pair d i a b) (i + 1)

  abbrev spread : ℕ
  spread = largest_spread (row d) d.w (fraction_bits d) a

  here : i < d.m
  here = omega arith

  left_here : left ≡ d.w - d.alpha - position d i
  left_here = left_is ∙ rw at-is

  pub later-few : later < left
  later-few = bits-for-all (position d i) (d.w - d.alpha) d.m i left here o.left-low left_here

  module _ (first end : ℕ) (first-is : first ≡ max 1 (left - later * most_offset_bits))
      (end_is : end ≡ min most_offset_bits (min (left - later) (most_table_bits - a)) + 1) where
    pub turn-fits : (b : ℕ) → first ≤ b → b < end → Fitting d i a b
    turn-fits b from below =
        let low = least-b (position d i) (d.w - d.alpha) later left b left_here first first-is from in
        let high = most-b (position d i) (d.w - d.alpha) later left b left_here a end end_is below a-few later-few in
        record {
          a-low = a-low;
          a-high = a-high;
          b-low = low.0;
          b-high = high.0;
          sum-high = high.1;
          left-low = high.2;
          left-high = low.1;
        }

    module _ (best : Option SizedDesign) where
      abbrev Here : Option SizedDesign → ℕ → Type 0
      Here found b = OverB d i a later first best found b

      one : (b : ℕ) → first ≤ b → 1 ≤ b
      one b from = (least-b (position d i) (d.w - d.alpha) later left b left_here first first-is from).0

      pub turns-begin : Here best first
      turns-begin =
          record {
            from = le_refl first;
            high = le_step
                (least-high (position d i) (d.w - d.alpha) d.m i left first here o.left-high left_here first-is);
            so_far = first-b d i o here best later a first (one first (le_refl first))
                (λ b below fit. below-least (position d i) (d.w - d.alpha) later left b left_here first first-is below fit.b-low
                fit.left-high);
          }

      turn : (found now : Option SizedDesign) (b : ℕ) → Here found b → b < end → best_of found (by b) ≡ now → Here now (b + 1)
      turn found now b t below e =
          record {
            from = le_trans t.from (le-add_right b 1);
            high = one-higher (turn-fits b t.from below).b-high;
            so_far = best-one 1 by best found b (one b t.from) t.so_far ∙ e;
          }

      pub turns-end : (found : Option SizedDesign) (b : ℕ) → Here found b → end ≤ b → best_of best (for_each 1 most_offset_bits by) ≡ found
      turns-end found b t ended =
          last-b d i o here best later a found b (one b t.from) t.high
          (λ other from e same admitted. absurd (beyond other from (fits d i o here a other e same admitted))) t.so_far where
            beyond : (other : ℕ) → b ≤ other → Fitting d i a other → ⊥
            beyond other from fit =
                above_most (position d i) (d.w - d.alpha) later left other left_here a end end_is (le_trans ended from) fit.b-high
                fit.sum-high fit.left-low

      -- Where size, or budget and what later tables add, are too large, they are for every larger b.
      module _ (found : Option SizedDesign) (b : ℕ) (t : Here found b) (below : b < end) where
        pub left-many : (bits : ℕ) → bits ≡ size_before (with_pair d i a b) (i + 1) → Reached found bits
            → best_of best (for_each 1 most_offset_bits by) ≡ found
        left-many bits bits_are many =
            last-b d i o here best later a found b (one b t.from) t.high
            (λ other from e same admitted. still-many d i o here found a b a other (le_refl a) from (rw bits_are at many) e same admitted)
            t.so_far

        -- with another b, budget and rest are no more than the budget of any design, and so below the limit
        rest_of : (least : ℕ) → Least d least → (other : ℕ) (e : Design) → Agrees (with_pair d i a other) e (i + 1) → Admitted e
            → budget_before d i + (2 ^ other - 1) * 2 ^ position d i * spread
            + (2 ^ (d.w - d.alpha) - 2 ^ (position d i + other)) * least < limit d
        unfolding rest_from limit with_pair
        rest_of least none_below other e same admitted =
            let begun = o.begun in
            let next = with_pair d i a other in
            let budget-is : budget_before e (i + 1) ≡ budget_before d i + (2 ^ other - 1) * 2 ^ position d i * spread
            = sym (budget-before-same next e (i + 1) same) ∙ budget-next d i a other here begun.places begun.m-high in
            let position-is : position e (i + 1) ≡ position d i + other
            = sym (position-same next e (i + 1) same (i + 1) (le_refl (i + 1)))
            ∙ position-next d i a other here begun.places begun.m-high in
            let rest-is : rest_from e least (position e (i + 1)) ≡ (2 ^ (d.w - d.alpha) - 2 ^ (position d i + other)) * least
            = rw (position-is, ← same.w, ← same.alpha) in
            let limit_is : limit e ≡ limit d = rw (← same.g) in
            let in_all : i + 1 ≤ e.m = rw (← same.m) (le_of_lt more) in
            lt_of_le_of_lt (rw (budget-is, rest-is) at (rest-within e (limits e admitted.legal) least
            (least-same next e (i + 1) same least none_below) (i + 1) in_all)) (rw limit_is at admitted.within)

        pub left-large : (least budget rest most : ℕ) → Least d least → budget ≡ budget_before (with_pair d i a b) (i + 1)
            → rest ≡ rest_from d least (at + b) → most ≡ limit d → most ≤ budget + rest
            → best_of best (for_each 1 most_offset_bits by) ≡ found
        unfolding rest_from
        left-large least budget rest most none_below budget-is rest-is most-is large =
            last-b d i o here best later a found b (one b t.from) t.high
            (λ other from e same admitted. absurd (over other from e same admitted)) t.so_far where
              large-here : limit d ≤ budget_before d i + (2 ^ b - 1) * 2 ^ position d i * spread
                  + (2 ^ (d.w - d.alpha) - 2 ^ (position d i + b)) * least
              large-here =
                  let begun = o.begun in
                  let budget-here : budget ≡ budget_before d i + (2 ^ b - 1) * 2 ^ position d i * spread
                  = budget-is ∙ budget-next d i a b here begun.places begun.m-high in
                  let rest-here : rest ≡ (2 ^ (d.w - d.alpha) - 2 ^ (position d i + b)) * least = rest-is ∙ rw at-is in
                  rw (budget-here, rest-here, most-is) at large

              over : (other : ℕ) → b ≤ other → (e : Design) → Agrees (with_pair d i a other) e (i + 1) → Admitted e → ⊥
              over other from e same admitted =
                  let within = (fits d i o here a other e same admitted).left-low in
                  let larger = with_rest (position d i) (d.w - d.alpha) spread least (none_below a a-low a-high a-few) b other from
                  (le_trans (le-add_right (position d i + other) later) within) in
                  no_room (limit d) _ _ (budget_before d i) _ _ large-here larger (rest_of least none_below other e same admitted)

      -- and where the later tables are gone through
      pub turn-taken : (found now : Option SizedDesign) (b : ℕ) (next : Design) → Here found b → b < end → next ≡ with_pair d i a b
          → now ≡ best_of found (continued (next.m - (i + 1)) next (i + 1)) → Here now (b + 1)
      unfolding with_pair
      turn-taken found now b next t below next-is now-is = turn found now b t below (sym (now-is ∙ rw next-is))

    -- The budget with this b, and what later tables add, fit.
    pub budget-fits : (b least budget rest : ℕ) → Fitting d i a b → Least d least → budget ≡ budget_before (with_pair d i a b) (i + 1)
        → rest ≡ rest_from d least (at + b) → budget + rest < 2 ^ 64
    budget-fits b least budget rest fit none_below budget-is rest-is =
        let begun = o.begun in
        let here = budget-is ∙ budget-next d i a b here begun.places begun.m-high in
        sum_fits budget rest (budget_before d i) _ (limit d) here (rw rest-is (rest-few d begun least (at + b) none_below))
        o.within (budget-few d i o) (share-few d i o a b fit)

    -- The design with this b can still be completed, and what is kept of it is this.
    pub next-open : (b budget most : ℕ) (next : Design) → first ≤ b → b < end → next ≡ with_pair d i a b
        → budget ≡ budget_before (with_pair d i a b) (i + 1) → most ≡ limit d → budget < most → Open next (i + 1)
    unfolding limit with_pair
    next-open b budget most next from below next-is budget-is most-is within =
        let begun = o.begun in
        rw next-is (open_next d i a b here begun.places begun.m-high o (turn-fits b from below) (rw (budget-is, most-is) at within))

    pub next-kept : (b bits budget most : ℕ) (next : Design) → next ≡ with_pair d i a b → bits ≡ size_before (with_pair d i a b) (i + 1)
        → budget ≡ budget_before (with_pair d i a b) (i + 1) → most ≡ limit d → Kept next (i + 1) (at + b) bits budget most
    unfolding limit with_pair
    next-kept b bits budget most next next-is bits_are budget-is most-is =
        let begun = o.begun in
        rw next-is (record {
          position_is = rw at-is (sym (position-next d i a b here begun.places begun.m-high));
          bits_are = bits_are;
          budget-is = budget-is;
          limit_is = most-is;
        })

-- The loop over a, before the turn of a
pub record OverA (d : Design) (i : ℕ) (end : ℕ) (best found : Option SizedDesign) (a : ℕ) : Type 0 where
  pub low : 1 ≤ a
  pub high : a ≤ end
  pub so_far : best_of best (joined 1 (a - 1) (λ a. for_each 1 most_offset_bits (λ b. continued (d.m - (i + 1)) (with_pair d i a b)
      (i + 1)))) ≡ found

-- one table and the later ones are all
later-is : (m i : ℕ) → i < m → suc (m - (i + 1)) ≡ m - i
later-is m i more = omega arith

module _ (d : Design) (i : ℕ) (o : Open d i) (more : i < d.m) (end : ℕ) (end_is : end ≡ min (d.alpha + 1) most_table_bits)
    (best : Option SizedDesign)
  where
    pub over-a-begin : OverA d i end best best 1
    over-a-begin =
        record {
          low = le_refl 1;
          high = omega (arith, end_is, o.begun.started.alpha-low);
          so_far = best-first 1 (λ a. for_each 1 most_offset_bits (λ b. continued (d.m - (i + 1)) (with_pair d i a b) (i + 1))) best;
        }

    pub over-a-turn : (found now : Option SizedDesign) (a : ℕ) → OverA d i end best found a → a < end
        → now ≡ best_of found (for_each 1 most_offset_bits (λ b. continued (d.m - (i + 1)) (with_pair d i a b) (i + 1)))
        → OverA d i end best now (a + 1)
    over-a-turn found now a t below e =
        record {
          low = le_trans t.low (le-add_right a 1);
          high = rw (add-one a) below;
          so_far = best-one 1 (λ a. for_each 1 most_offset_bits (λ b. continued (d.m - (i + 1)) (with_pair d i a b) (i + 1))) best found a
              t.low t.so_far
              ∙ sym e;
        }

    -- a + b has its limit, so no a from the end on has a b
    pub over-a-end : (found : Option SizedDesign) (a : ℕ) → OverA d i end best found a → end ≤ a → best_of best (continued (d.m - i) d i) ≡ found
    over-a-end found a t ended =
        rw (← later-is d.m i more)
        (last-a d i o more best found (d.m - (i + 1)) a t.low (omega (arith, t.high, end_is))
        (λ other b from e same admitted. absurd (none-fits other b from (fits d i o more other b e same admitted))) t.so_far) where
          none-fits : (other b : ℕ) → a ≤ other → Fitting d i other b → ⊥
          none-fits other b from fit = omega (arith, end_is, ended, fit.a-high, fit.b-low, fit.sum-high)
