-- What legality tells of a design.
use Rattle.std.specs.Prelude.{Ok}
use mathlib.Core.Path.{◌≡◌, sym, ap, ◌∙◌}
use mathlib.Core.Bool.{false}
use Prim.Native.Nat.{ℕ, ◌+◌, ◌-◌, ◌≤◌, ◌<◌}
use native.Mathlib.Omega.{arith}
use lib.Pow.{pow_mono}
use borrow.Author.Tests.{ltb-false, leb-false, le-ltb, lt-leb, eqb-true, eq-eqb, not-false}
use lib.ListN.{length, get_or}
use lib.Seq.{length-take-le}
use Rattle.std.specs.List.{list_any, sum_by}
use Rattle.general.specs.Below.{some_below, sum_below}
use Rattle.general.proofs.OverLists.{some-in-list, sum-in-list}
use Rattle.general.proofs.Tests.{neither}
use Rattle.general.proofs.Sums.{none_below, none_of, sum_step}
use Rattle.refusal.proofs.Checks.{verdict-append, passed-append, none-fails, inside, not-outside}
use Rattle.refusal.specs.Checks.{verdict}
use Rattle.values.specs.Rows.{Lawful}
use Rattle.values.specs.Room.{Room, finest_unit, entry_bound}
use Rattle.values.specs.Inputs.{SlopeInput}
use Rattle.values.specs.Widths.{limits_of, width_checks}
use Rattle.values.proofs.WidthLaws.{Widths, widths-of, within-passes}
use Rattle.design.specs.declared.Design.{Design}
use Rattle.design.specs.declared.legal.TableRule.{TableRule}
use Rattle.design.specs.Limits.{least_initial_bits, most_initial_bits, most_tables, most_offset_bits, most_table_bits}
use Rattle.design.specs.Cut.{tables, no_pair, a_of, b_of, row, fraction_bits, sum_limit, position}
use Rattle.design.specs.Cut as Cut
use Rattle.design.specs.declared.Pair.{Pair}
use Rattle.design.specs.Legal.{breaks, table_breaks, cut_checks, design_checks, design_verdict, Legal}

-- A table that lies within document 01's limits
pub record Within (d : Design) (i : ℕ) : Type 0 where
  pub a-low : 1 ≤ a_of d i
  pub a-high : a_of d i ≤ d.alpha
  pub b-low : 1 ≤ b_of d i
  pub b-high : b_of d i ≤ most_offset_bits
  pub sum-high : a_of d i + b_of d i ≤ most_table_bits

pub record Limits (d : Design) : Type 0 where
  pub widths : Widths d.kind d.w d.q d.g
  pub alpha-low : least_initial_bits ≤ d.alpha
  pub alpha-high : d.alpha ≤ most_initial_bits
  pub alpha-below : d.alpha < d.w
  pub m-low : 1 ≤ d.m
  pub m-high : d.m ≤ most_tables
  pub table : (i : ℕ) → i < d.m → Within d i
  pub cut : position d d.m ≡ d.w - d.alpha

module _ (d : Design) where
  pub within : (i : ℕ) → table_breaks TableRule.SegmentBits d i ≡ false → table_breaks TableRule.OffsetBits d i ≡ false → Within d i
  unfolding table_breaks breaks
  within i segment offset =
      let a = inside 1 d.alpha (a_of d i) segment in
      let parts = neither _ _ offset in
      let b = inside 1 most_offset_bits (b_of d i) parts.0 in
      record {
        a-low = a.0;
        a-high = a.1;
        b-low = b.0;
        b-high = b.1;
        sum-high = ltb-false most_table_bits (a_of d i + b_of d i) parts.1;
      }

  pub limits : Legal d → Limits d
  unfolding design_verdict design_checks cut_checks
  limits legal =
      let lists = passed-append (width_checks (limits_of d.kind) d.kind d.w d.q d.g) (cut_checks d) legal in
      let p = none-fails (cut_checks d) lists.1 in
      let alpha = neither _ _ p.0 in
      record {
        widths = widths-of d.kind d.w d.q d.g lists.0;
        alpha-low = (inside least_initial_bits most_initial_bits d.alpha alpha.0).0;
        alpha-high = (inside least_initial_bits most_initial_bits d.alpha alpha.0).1;
        alpha-below = leb-false d.w d.alpha alpha.1;
        m-low = (inside 1 most_tables d.m p.1.0).0;
        m-high = (inside 1 most_tables d.m p.1.0).1;
        table = λ i h. within i (none_below d.m (table_breaks TableRule.SegmentBits d) p.1.1.0 i h)
            (none_below d.m (table_breaks TableRule.OffsetBits d) p.1.1.1.0 i h);
        cut = eqb-true _ _ (not-false _ p.1.1.1.1.0);
      }

  -- and the other way round
  pub keeps : (i : ℕ) → Within d i → (table_breaks TableRule.SegmentBits d i ≡ false) × (table_breaks TableRule.OffsetBits d i ≡ false)
  unfolding table_breaks breaks
  keeps i t = (
    not-outside 1 d.alpha (a_of d i) t.a-low t.a-high,
    rw (not-outside 1 most_offset_bits (b_of d i) t.b-low t.b-high, le-ltb most_table_bits (a_of d i + b_of d i) t.sum-high),
  )

  cut-passes : Limits d → verdict (cut_checks d) ≡ (Ok tt)
  unfolding cut_checks
  cut-passes l =
      rw (
        not-outside least_initial_bits most_initial_bits d.alpha l.alpha-low l.alpha-high,
        lt-leb d.w d.alpha l.alpha-below,
        not-outside 1 most_tables d.m l.m-low l.m-high,
        none_of d.m (table_breaks TableRule.SegmentBits d) (λ i h. (keeps i (l.table i h)).0),
        none_of d.m (table_breaks TableRule.OffsetBits d) (λ i h. (keeps i (l.table i h)).1),
        eq-eqb _ _ l.cut,
      )

  pub legal-of : Limits d → Legal d
  unfolding design_verdict design_checks
  legal-of l =
      verdict-append (width_checks (limits_of d.kind) d.kind d.w d.q d.g) (cut_checks d)
      ∙ rw (within-passes (limits_of d.kind) d.kind d.w d.q d.g l.widths.within) (cut-passes l)

-- What the calls of the values ask, at a legal design
module _ (d : Design) (l : Limits d) where
  pub lawful : Lawful (row d)
  lawful = l.widths.lawful

  pub room : Room (row d) d.w (fraction_bits d)
  room = l.widths.room

  -- g is at most P, so the budget's limit fits,
  pub guard_small : d.g ≤ finest_unit
  guard_small = omega (arith, room.s-small)

  -- and the limit on sums is one that the machine has room for.
  pub sum-limit-small : sum_limit d ≤ entry_bound
  sum-limit-small = pow_mono {j = finest_unit + 2} (omega (arith, room.s-small))

  pub slopewise : (i : ℕ) → i < d.m → SlopeInput (row d) d.w (fraction_bits d) (a_of d i)
  slopewise i h = record { lawful = lawful; room = room; a_small = omega (arith, (l.table i h).a-high, l.alpha-below) }

  -- the bits of table i end within the w - alpha low bits of x
  pub bits-end : (i : ℕ) → i < d.m → position d i + b_of d i ≤ d.w - d.alpha
  unfolding position
  bits-end i h = omega (arith, sum_step (b_of d) i d.m h, l.cut)

-- The tables that are read, as a list: whether one of them breaks a rule, and their b_i in all
module _ (d : Design) (some : d.m ≤ length d.pairs) where
  read-length : length (tables d) ≡ d.m
  unfolding tables
  read-length = length-take-le d.m d.pairs some

  pub some-breaks : (rule : TableRule) → some_below d.m (table_breaks rule d) ≡ list_any (breaks rule d.alpha) (tables d)
  unfolding table_breaks Cut.pair_at
  some-breaks rule =
      ap (λ n. some_below n (λ i. breaks rule d.alpha (get_or (tables d) i no_pair))) (sym read-length)
      ∙ some-in-list (breaks rule d.alpha) no_pair (tables d)

  pub bits-in-all : position d d.m ≡ sum_by (λ (pair : Pair). pair.b) (tables d)
  unfolding position Cut.pair_at
  bits-in-all =
      ap (λ n. sum_below n (λ i. (get_or (tables d) i no_pair).b)) (sym read-length)
      ∙ sum-in-list (λ (pair : Pair). pair.b) no_pair (tables d)
