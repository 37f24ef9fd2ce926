-- What inner calls of the search promise each other, and may count on.
use Rattle.std.specs.Prelude.{Ok, false, List, ◌≡◌, ℕ, ◌+◌, ◌-◌, ◌*◌, ◌^◌, ◌≤◌, ◌<◌, length, get_or}
use Rattle.general.specs.Below.{sum_below}
use Rattle.refusal.specs.Checks.{verdict}
use Rattle.values.specs.Rows.{row_of}
use Rattle.values.specs.declared.slopes.LargestSlopes.{LargestSlopes}
use Rattle.values.specs.Slopes.{largest_spread, largest_slopes}
use Rattle.values.specs.Widths.{limits_of, width_checks}
use Rattle.design.specs.declared.Design.{Design}
use Rattle.design.specs.declared.legal.TableRule.{TableRule}
use Rattle.design.specs.Limits.{least_initial_bits, most_initial_bits, most_tables, most_offset_bits, most_table_bits}
use Rattle.design.specs.Cut.{row, fraction_bits, position}
use Rattle.design.specs.Legal.{table_breaks}
use Rattle.design.specs.Budget.{table_budget, limit}
use Rattle.sizing.specs.Size.{initial_size, table_size}
use Rattle.searching.specs.Designs.{bare}

-- The size and the budget of a design's first i tables, with all that is not a table's: at i = m its size and its budget
unfoldable pub size_before : Design → ℕ → ℕ
size_before d i = initial_size d + sum_below i (table_size d)

unfoldable pub budget_before : Design → ℕ → ℕ
budget_before d i = sum_below i (table_budget d) + (d.m + 2) * 2 ^ 17

-- Where the bits of the next table begin, and size and budget so far, of a design whose first i pairs are chosen; and its limit
pub record Kept (d : Design) (i at bits budget most : ℕ) : Type 0 where
  pub position_is : at ≡ position d i
  pub bits_are : bits ≡ size_before d i
  pub budget-is : budget ≡ budget_before d i
  pub limit_is : most ≡ limit d

-- A design whose widths and alpha are within their limits
pub record Started (d : Design) : Type 0 where
  pub widths : verdict (width_checks (limits_of d.kind) d.kind d.w d.q d.g) ≡ (Ok tt)
  pub alpha-low : least_initial_bits ≤ d.alpha
  pub alpha-high : d.alpha ≤ most_initial_bits
  pub alpha-below : d.alpha < d.w

-- and m, too, with places for its pairs
pub record Begun (d : Design) : Type 0 where
  pub started : Started d
  pub m-low : 1 ≤ d.m
  pub m-high : d.m ≤ most_tables
  pub places : length d.pairs ≡ most_tables

-- A design whose first i tables break no rule, leave bits for the others, and not too many, and are within the limit
pub record Open (d : Design) (i : ℕ) : Type 0 where
  pub begun : Begun d
  pub chosen : i ≤ d.m
  pub tables : (rule : TableRule) (j : ℕ) → j < i → table_breaks rule d j ≡ false
  pub left-low : position d i + (d.m - i) ≤ d.w - d.alpha
  pub left-high : d.w - d.alpha ≤ position d i + (d.m - i) * most_offset_bits
  pub within : budget_before d i < limit d

-- A pair for table i that keeps the rules, leaves bits for the later tables, and not too many
pub record Fitting (d : Design) (i a b : ℕ) : Type 0 where
  pub a-low : 1 ≤ a
  pub a-high : a ≤ d.alpha
  pub b-low : 1 ≤ b
  pub b-high : b ≤ most_offset_bits
  pub sum-high : a + b ≤ most_table_bits
  pub left-low : position d i + b + (d.m - (i + 1)) ≤ d.w - d.alpha
  pub left-high : d.w - d.alpha ≤ position d i + b + (d.m - (i + 1)) * most_offset_bits

-- By a, "the largest Hi - Lo over all A_i" and the largest Hi + Lo. A table has at least one bit of B, so a is below the highest a + b.
abbrev pub no_slopes : LargestSlopes
no_slopes = record { spread = 0; sum = 0 }

abbrev pub SlopesOf : ℕ → ℕ → ℕ → List LargestSlopes → Type 0
SlopesOf kind w P slopes = (a : ℕ) → 1 ≤ a → a < most_table_bits → a < w → get_or slopes a no_slopes ≡ largest_slopes (row_of kind) w P a

abbrev pub SlopesFor : Design → List LargestSlopes → Type 0
SlopesFor d slopes = SlopesOf d.kind d.w (fraction_bits d) slopes

-- A number that the largest Hi - Lo of no table is below
abbrev pub Least : Design → ℕ → Type 0
Least d least = (a : ℕ) → 1 ≤ a → a ≤ d.alpha → a < most_table_bits → least ≤ largest_spread (row d) d.w (fraction_bits d) a

-- The same of the spreads in a list, by a up to alpha
abbrev pub LeastOf : List LargestSlopes → ℕ → ℕ → Type 0
LeastOf slopes alpha least = (a : ℕ) → 1 ≤ a → a ≤ alpha → a < most_table_bits → least ≤ (get_or slopes a no_slopes).spread

-- What all tables from position p on add to the budget at least: their D_i add up to 2^(w-alpha) - 2^p.
unfoldable pub rest_from : Design → ℕ → ℕ → ℕ
rest_from d least p = (2 ^ (d.w - d.alpha) - 2 ^ p) * least

-- A design with so many tables, of which none is chosen yet
abbrev pub with_tables : Design → ℕ → Design
with_tables d m = bare d.kind d.w d.q d.g d.alpha m
