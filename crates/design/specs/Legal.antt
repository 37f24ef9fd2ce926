-- Document 01, "What is turned down, by place", 1 to 9, in the order in which they are tried.
use Rattle.std.specs.Prelude.{Bool, not, ◌||◌, List, [], ◌∷◌, ◌++◌, ◌≡◌, ℕ, ◌+◌, ◌-◌, leb, ltb, eqb, Ok}
use Rattle.general.specs.Below.{some_below}
use Rattle.refusal.specs.declared.Cause.{Cause}
use Rattle.refusal.specs.Verdict.{Verdict}
use Rattle.refusal.specs.Checks.{Check, ◌↝◌, outside, verdict}
use Rattle.values.specs.Widths.{width_checks, limits_of}
use Rattle.design.specs.declared.Pair.{Pair}
use Rattle.design.specs.declared.Design.{Design}
use Rattle.design.specs.declared.legal.TableRule.{TableRule}
use Rattle.design.specs.Limits.{least_initial_bits, most_initial_bits, most_tables, most_offset_bits, most_table_bits}
use Rattle.design.specs.Cut.{pair_at, position}

-- 7, "a_i not 1..alpha"; 8, "b_i not 1..8, or a_i+b_i over 12"
unfoldable pub breaks : TableRule → ℕ → Pair → Bool
breaks TableRule.SegmentBits alpha pair = outside 1 alpha pair.a
breaks TableRule.OffsetBits alpha pair = outside 1 most_offset_bits pair.b || ltb most_table_bits (pair.a + pair.b)

unfoldable pub table_breaks : TableRule → Design → ℕ → Bool
table_breaks rule d i = breaks rule d.alpha (pair_at d i)

-- "7 is tried on all tables before 8."
unfoldable pub cut_checks : Design → List Check
cut_checks d =
    (outside least_initial_bits most_initial_bits d.alpha || leb d.w d.alpha) ↝ Cause.InitialBits ∷
    outside 1 most_tables d.m ↝ Cause.TableCount ∷
    some_below d.m (table_breaks TableRule.SegmentBits d) ↝ Cause.SegmentBits ∷
    some_below d.m (table_breaks TableRule.OffsetBits d) ↝ Cause.OffsetBits ∷
    not (eqb (position d d.m) (d.w - d.alpha)) ↝ Cause.CutSum ∷ []

unfoldable pub design_checks : Design → List Check
design_checks d = width_checks (limits_of d.kind) d.kind d.w d.q d.g ++ cut_checks d

unfoldable pub design_verdict : Design → Verdict
design_verdict d = verdict (design_checks d)

-- "A design is legal when none of 1 to 9 .. turns it down."
abbrev pub Legal : Design → Type 0
Legal d = design_verdict d ≡ (Ok tt)
