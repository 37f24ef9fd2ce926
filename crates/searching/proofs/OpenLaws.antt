-- A design with one table more: what is kept of it, and when it can still be completed.
use mathlib.Core.Path.{◌≡◌, sym, ap, ◌∙◌}
use mathlib.Core.Bool.{false}
use Prim.Native.Nat.{ℕ, ◌+◌, ◌-◌, ◌*◌, ◌^◌, ◌≤◌, ◌<◌}
use native.Mathlib.Nat.{le_refl}
use native.Mathlib.Numerals.{add-one}
use native.Mathlib.Omega.{arith}
use lib.ListN.{length, length-set}
use borrow.Author.Tests.{le-ltb}
use Rattle.general.proofs.Sums.{below_suc, sum-next}
use Rattle.refusal.proofs.Checks.{not-outside}
use Rattle.values.specs.Slopes.{largest_spread, largest_sum}
use Rattle.values.proofs.WidthLaws.{widths-of}
use Rattle.design.specs.declared.Pair.{Pair}
use Rattle.design.specs.declared.Design.{Design}
use Rattle.design.specs.declared.legal.TableRule.{TableRule}
use Rattle.design.specs.Limits.{most_tables, most_offset_bits, most_table_bits}
use Rattle.design.specs.Cut.{pair_at, a_of, b_of, row, fraction_bits, position}
use Rattle.design.specs.Legal.{breaks, table_breaks}
use Rattle.design.specs.Budget.{reach, table_budget, limit}
use Rattle.design.proofs.LegalLaws.{Limits, within}
use Rattle.sizing.specs.Size.{table_size}
use Rattle.sizing.proofs.SizeLaws.{table-size-is}
use Rattle.sizing.proofs.GrowthLaws.{size_by}
use Rattle.searching.specs.Designs.{with_pair}
use Rattle.searching.specs.Search.{size_before, budget_before, Open, Fitting}
use Rattle.searching.proofs.AdmittedLaws.{bits-between}
use Rattle.searching.proofs.PrefixLaws.{
  Agrees,
  agrees-itself,
  with-agrees,
  pair-others,
  pair-chosen,
  position-same,
  size-before-same,
  budget-before-same,
}

-- With all its tables it is legal.
pub open-limits : (d : Design) → Open d d.m → Limits d
open-limits d o =
    let b = o.begun in
    record {
      widths = widths-of d.kind d.w d.q d.g b.started.widths;
      alpha-low = b.started.alpha-low;
      alpha-high = b.started.alpha-high;
      alpha-below = b.started.alpha-below;
      m-low = b.m-low;
      m-high = b.m-high;
      table = λ j h. within d j (o.tables TableRule.SegmentBits j h) (o.tables TableRule.OffsetBits j h);
      cut = omega (arith, o.left-low, o.left-high);
    }

module _ (d : Design) (i a b : ℕ) (h : i < d.m) (places : length d.pairs ≡ most_tables) (few : d.m ≤ most_tables) where
  abbrev next : Design
  next = with_pair d i a b

  -- the pairs before agree, and this one is chosen
  before : Agrees d next i
  before = with-agrees d i a b next (agrees-itself next (i + 1))

  here : pair_at next i ≡ record { a = a; b = b }
  here = pair-chosen d i a b h (omega (arith, places, few))

  a-here : a_of next i ≡ a
  a-here = ap (λ (pair : Pair). pair.a) here

  b_here : b_of next i ≡ b
  b_here = ap (λ (pair : Pair). pair.b) here

  pub position-next : position next (i + 1) ≡ position d i + b
  unfolding position
  position-next = omega (arith, sum-next i (b_of next), position-same d next i before i (le_refl i), b_here)

  size-here : table_size next i ≡ size_by (largest_sum (row d) d.w (fraction_bits d) a) a b (position d i)
  unfolding with_pair
  size-here = table-size-is next i ∙ rw (a-here, b_here, ← position-same d next i before i (le_refl i))

  pub size-next : size_before next (i + 1) ≡ size_before d i + size_by (largest_sum (row d) d.w (fraction_bits d) a) a b (position d i)
  unfolding size_before
  size-next = omega (arith, sum-next i (table_size next), size-before-same d next i before, size-here)

  share-here : table_budget next i ≡ (2 ^ b - 1) * 2 ^ position d i * largest_spread (row d) d.w (fraction_bits d) a
  unfolding table_budget reach with_pair
  share-here = rw (a-here, b_here, ← position-same d next i before i (le_refl i))

  pub budget-next : budget_before next (i + 1)
      ≡ budget_before d i + (2 ^ b - 1) * 2 ^ position d i * largest_spread (row d) d.w (fraction_bits d) a
  unfolding budget_before
  budget-next = omega (arith, sum-next i (table_budget next), budget-before-same d next i before, share-here)

  -- A design with a fitting pair can still be completed,
  rules : Fitting d i a b → (rule : TableRule) → breaks rule d.alpha (record { a = a; b = b }) ≡ false
  unfolding breaks
  rules fit TableRule.SegmentBits = not-outside 1 d.alpha a fit.a-low fit.a-high
  rules fit TableRule.OffsetBits =
      rw (not-outside 1 most_offset_bits b fit.b-low fit.b-high, le-ltb most_table_bits (a + b) fit.sum-high)

  kept : Open d i → Fitting d i a b → (rule : TableRule) (j : ℕ) → j < i + 1 → table_breaks rule next j ≡ false
  unfolding table_breaks with_pair
  kept o fit rule j below =
      below_suc (rw add-one at below) (λ at. rw at (ap (breaks rule d.alpha) here ∙ rules fit rule))
      (λ earlier. ap (breaks rule d.alpha) (pair-others d i a b j earlier) ∙ o.tables rule j earlier)

  pub open_next : Open d i → Fitting d i a b → budget_before next (i + 1) < limit next → Open next (i + 1)
  unfolding with_pair
  open_next o fit within =
      let b = o.begun in
      record {
        begun = record {
          started = record {
            widths = b.started.widths;
            alpha-low = b.started.alpha-low;
            alpha-high = b.started.alpha-high;
            alpha-below = b.started.alpha-below;
          };
          m-low = b.m-low;
          m-high = b.m-high;
          places = length-set d.pairs i _ ∙ places;
        };
        chosen = omega arith;
        tables = kept o fit;
        left-low = rw position-next fit.left-low;
        left-high = rw position-next fit.left-high;
        within = within;
      }

  -- and the pair of a legal one fits.
  pub fitting : (e : Design) → Agrees next e (i + 1) → Limits e → Fitting d i a b
  unfolding with_pair
  fitting e same l =
      let in_all : i < e.m = rw (← same.m) h in
      let table = l.table i in_all in
      let pair_is : pair_at e i ≡ record { a = a; b = b } = sym (same.pairs i (omega arith)) ∙ here in
      let a-is : a_of e i ≡ a = ap (λ (pair : Pair). pair.a) pair_is in
      let b-is : b_of e i ≡ b = ap (λ (pair : Pair). pair.b) pair_is in
      let position-is : position e (i + 1) ≡ position d i + b
      = sym (position-same next e (i + 1) same (i + 1) (le_refl (i + 1))) ∙ position-next in
      let later = e.m - (i + 1) in
      let all-is : i + 1 + later ≡ e.m = omega arith in
      let between = rw all-is at (bits-between e l (i + 1) later (omega arith)) in
      record {
        a-low = rw (← a-is) table.a-low;
        a-high = omega (arith, a-is, table.a-high, same.alpha);
        b-low = rw (← b-is) table.b-low;
        b-high = rw (← b-is) table.b-high;
        sum-high = rw (← a-is, ← b-is) table.sum-high;
        left-low = omega (arith, between.0, l.cut, position-is, same.m, same.w, same.alpha);
        left-high = omega (arith, between.1, l.cut, position-is, same.m, same.w, same.alpha);
      }
