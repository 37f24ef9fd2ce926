-- What the checks of kind and widths leave, and the laws of the rows, computed over their table once.
use Rattle.std.specs.Prelude.{Ok}
use mathlib.Core.Path.{◌≡◌, refl, ◌∙◌}
use mathlib.Core.Bool.{Bool, true, ◌&&◌, cond}
use mathlib.Core.List.{List, [], ◌∷◌}
use Prim.Native.Nat.{ℕ, zero, suc, ◌+◌, ◌*◌, ◌^◌, ◌≤◌, ◌<◌}
use native.Mathlib.Nat.{le_trans, not-suc-le-zero}
use native.Mathlib.Decide.{dec_lt}
use native.Mathlib.Omega.{arith}
use borrow.Author.Tests.{leb-true, ltb-false, le-ltb}
use lib.Dec.{leb}
use Rattle.general.proofs.Tests.{both, neither}
use Rattle.refusal.specs.Checks.{verdict}
use Rattle.refusal.proofs.Checks.{verdict-append, none-fails, inside, not-outside}
use Rattle.values.specs.declared.widths.Limits.{Limits}
use Rattle.values.specs.Rows.{rows, kinds, row_of, Lawful}
use Rattle.values.specs.Room.{Room, highest_degree, widest_word, finest_unit}
use Rattle.values.specs.Widths.{limits_of, function_checks, guard_check, width_checks}
use Rattle.values.proofs.Bounds.{coarser, narrower}

-- Every first number of a list is at most its second, as a test and as a fact.
abbrev all_hold : List (ℕ × ℕ) → Bool
all_hold [] = true
all_hold (bound ∷ bounds) = leb bound.0 bound.1 && all_hold bounds

abbrev AllHold : List (ℕ × ℕ) → Type 0
AllHold [] = Unit {0}
AllHold (bound ∷ bounds) = (bound.0 ≤ bound.1) × AllHold bounds

all-hold : (bounds : List (ℕ × ℕ)) → all_hold bounds ≡ true → AllHold bounds
all-hold [] e = tt
all-hold (bound ∷ bounds) e = let p = both _ _ e in (leb-true _ _ p.0, all-hold bounds p.1)

-- What is asked of a kind below `kinds`: of its row, by the mathematics; of its row at its limits, by the machine; and of its limits.
asked : ℕ → List (ℕ × ℕ)
asked kind =
    let row = row_of kind in
    let limits = limits_of kind in
    let power = row.k * (limits.sum + 1) in
    (1, row.c) ∷ (1, row.k) ∷ (2 * row.c, 2 ^ row.k) ∷
    (row.k, highest_degree) ∷ (limits.w.1, widest_word) ∷ (limits.sum, finest_unit) ∷ (power, 63) ∷
    (cond row.rising 0 (power + limits.w.1), 64) ∷ (1, limits.q.0) ∷ (2, limits.g.0) ∷ (limits.q.1 + 3, limits.sum) ∷ []

record Fine (kind : ℕ) : Type 0 where
  lawful : Lawful (row_of kind)
  room : Room (row_of kind) (limits_of kind).w.1 (limits_of kind).sum
  q-low : 1 ≤ (limits_of kind).q.0
  g-low : 2 ≤ (limits_of kind).g.0
  halves : (limits_of kind).q.1 + 3 ≤ (limits_of kind).sum

fine_of : (kind : ℕ) → all_hold (asked kind) ≡ true → Fine kind
unfolding asked
fine_of kind e =
    let p = all-hold (asked kind) e in
    let m = p.1.1.1 in
    let l = m.1.1.1.1.1 in
    record {
      lawful = record { c_pos = p.0; k-pos = p.1.0; domain = p.1.1.0 };
      room = record {
        degree = m.0;
        w-small = m.1.0;
        s-small = m.1.1.0;
        power = m.1.1.1.0;
        falls = λ falling. rw falling at m.1.1.1.1.0;
      };
      q-low = l.0;
      g-low = l.1.0;
      halves = l.1.1.0;
    }

-- A test that passes for every number below n passes for each.
abbrev all_below : ℕ → (ℕ → Bool) → Bool
all_below zero test = true
all_below (suc n) test = all_below n test && test n

at_each : (n : ℕ) (test : ℕ → Bool) → all_below n test ≡ true → (i : ℕ) → i < n → test i ≡ true
at_each zero test all i h = absurd (not-suc-le-zero h)
at_each (suc n) test all i h = elim (dec_lt i n) [
  | yes before ↦ at_each n test (both (all_below n test) (test n) all).0 i before
  | no last ↦ let e : i ≡ n = omega arith in rw e (both (all_below n test) (test n) all).1
]

fine : (kind : ℕ) → kind < kinds → Fine kind
unfolding rows kinds row_of limits_of asked
fine kind h = fine_of kind (at_each kinds (λ (kind : ℕ). all_hold (asked kind)) refl kind h)

pub row_lawful : (kind : ℕ) → kind < kinds → Lawful (row_of kind)
row_lawful kind h = (fine kind h).lawful

-- Kind and widths lie within the limits.
pub record Within (limits : Limits) (kind w q g : ℕ) : Type 0 where
  pub kind-high : kind ≤ limits.kind
  pub w-low : limits.w.0 ≤ w
  pub w-high : w ≤ limits.w.1
  pub q-low : limits.q.0 ≤ q
  pub q-high : q ≤ limits.q.1
  pub g-low : limits.g.0 ≤ g
  pub g-high : g ≤ limits.g.1
  pub sum-high : q + g ≤ limits.sum

pub within_of : (limits : Limits) (kind w q g : ℕ) → verdict (width_checks limits kind w q g) ≡ (Ok tt) → Within limits kind w q g
unfolding width_checks
within_of limits kind w q g e =
    let p = none-fails (width_checks limits kind w q g) e in
    let w-in = inside limits.w.0 limits.w.1 w p.1.0 in
    let q-in = inside limits.q.0 limits.q.1 q p.1.1.0 in
    let g-and-sum = neither _ _ p.1.1.1.0 in
    let g-in = inside limits.g.0 limits.g.1 g g-and-sum.0 in
    record {
      kind-high = (inside 0 limits.kind kind p.0).1;
      w-low = w-in.0;
      w-high = w-in.1;
      q-low = q-in.0;
      q-high = q-in.1;
      g-low = g-in.0;
      g-high = g-in.1;
      sum-high = ltb-false limits.sum (q + g) g-and-sum.1;
    }

-- and the other way round
pub within-passes : (limits : Limits) (kind w q g : ℕ) → Within limits kind w q g → verdict (width_checks limits kind w q g) ≡ (Ok tt)
unfolding width_checks
within-passes limits kind w q g i =
    rw (
      not-outside 0 limits.kind kind (omega arith) i.kind-high,
      not-outside limits.w.0 limits.w.1 w i.w-low i.w-high,
      not-outside limits.q.0 limits.q.1 q i.q-low i.q-high,
      not-outside limits.g.0 limits.g.1 g i.g-low i.g-high,
      le-ltb limits.sum (q + g) i.sum-high,
    )

-- Kind, w and q that pass, with guard bits within the limits
pub guard-passes : (limits : Limits) (kind w q g : ℕ) → verdict (function_checks limits kind w q) ≡ (Ok tt) → limits.g.0 ≤ g
    → g ≤ limits.g.1 → q + g ≤ limits.sum → verdict (width_checks limits kind w q g) ≡ (Ok tt)
unfolding width_checks
guard-passes limits kind w q g passed low high few =
    verdict-append (function_checks limits kind w q) (guard_check limits q g ∷ [])
    ∙ rw (passed, not-outside limits.g.0 limits.g.1 g low high, le-ltb limits.sum (q + g) few)

pub function-within : (limits : Limits) (kind w q : ℕ) → verdict (function_checks limits kind w q) ≡ (Ok tt)
    → (w ≤ limits.w.1) × (q ≤ limits.q.1)
function-within limits kind w q passed =
    let p = none-fails (function_checks limits kind w q) passed in
    ((inside limits.w.0 limits.w.1 w p.1.0).1, (inside limits.q.0 limits.q.1 q p.1.1.0).1)

-- No limit lets a kind through that has no row, and a kind fits a byte.
known : (kind : ℕ) → kind ≤ (limits_of kind).kind → (kind < kinds) × (kinds ≤ 256)
unfolding rows kinds limits_of
known kind h = (omega arith, omega arith)

-- What everything above uses of kind and widths that pass
pub record Widths (kind w q g : ℕ) : Type 0 where
  pub within : Within (limits_of kind) kind w q g
  pub kind-known : kind < kinds
  pub kinds-few : kinds ≤ 256
  pub lawful : Lawful (row_of kind)
  -- there is room for the finest units of the kind, and so for those asked for
  pub finest : Room (row_of kind) w (limits_of kind).sum
  pub room : Room (row_of kind) w (q + g)
  -- and for halves of an output unit, of which a word has q + 3 bits
  pub halves : Room (row_of kind) w (q + 3)
  pub q-low : 1 ≤ q
  pub g-low : 2 ≤ g

pub widths-of : (kind w q g : ℕ) → verdict (width_checks (limits_of kind) kind w q g) ≡ (Ok tt) → Widths kind w q g
widths-of kind w q g e =
    let within = within_of (limits_of kind) kind w q g e in
    let has-row = known kind within.kind-high in
    let f = fine kind has-row.0 in
    let finest = narrower w within.w-high f.room in
    record {
      within = within;
      kind-known = has-row.0;
      kinds-few = has-row.1;
      lawful = f.lawful;
      finest = finest;
      room = coarser (q + g) within.sum-high finest;
      halves = coarser (q + 3) (omega (arith, f.halves, within.q-high)) finest;
      q-low = le_trans f.q-low within.q-low;
      g-low = le_trans f.g-low within.g-low;
    }
