-- What the call `fill` answers, "fill 1 to 11", and what it leaves in the tables, for any that are lent.
use Rattle.std.specs.Prelude.{◌≡◌, List, [], ◌∷◌, ◌++◌, ℕ, zero, suc, ◌/◌, ◌%◌, ◌^◌, ◌≤◌, ◌<◌, length, get_or, ℤ, pos}
use Rattle.general.specs.Below.{list_below}
use Rattle.refusal.specs.Verdict.{Verdict}
use Rattle.refusal.specs.Checks.{verdict, leaves}
use Rattle.design.specs.declared.Design.{Design}
use Rattle.design.specs.Cut.{a_of}
use Rattle.design.specs.Stored.{initial_count, offset_count, offset_total, stored_count, stored_word, stored_place}
use Rattle.design.specs.Budget.{admitted_check}
use Rattle.entries.specs.Entries.{initial_at, offset_at}
use Rattle.tables.specs.Set.{set_checks}

-- "fill 1 to 11"
unfoldable pub fill_verdict : Design → ℕ → ℕ → Verdict
fill_verdict d initial offsets = verdict (set_checks d initial offsets ++ admitted_check d ∷ [])

-- The initial entries
unfoldable pub initial_entries : Design → List ℕ
initial_entries d = list_below (initial_count d) (initial_at d)

-- The offset that segment A of table i stores at an index: that of the B which it belongs to
unfoldable pub stored_offset : Design → ℕ → ℕ → ℕ → ℤ
stored_offset d i A index = offset_at d i A (stored_word d i index)

-- The offsets of table i, segment by segment: "entry A_i·2^(b_i) + B_i"
unfoldable pub table_entries : Design → ℕ → List ℤ
table_entries d i = list_below (offset_count d i) (λ n. stored_offset d i (n / stored_count d i) (n % stored_count d i))

-- "Offset tables lie one after another, table 0 first": those of the tables below n
unfoldable pub offsets_below : Design → ℕ → List ℤ
offsets_below d zero = []
offsets_below d (suc n) = offsets_below d n ++ table_entries d n

unfoldable pub offset_entries : Design → List ℤ
offset_entries d = offsets_below d d.m

unfoldable pub initial_after : Design → List ℕ → List ℤ → List ℕ
initial_after d initial offsets = leaves (fill_verdict d (length initial) (length offsets)) (initial_entries d) initial

unfoldable pub offsets_after : Design → List ℕ → List ℤ → List ℤ
offsets_after d initial offsets = leaves (fill_verdict d (length initial) (length offsets)) (offset_entries d) offsets

-- "all lent tables that begin with the entries the fill writes for it"; "How the tables came by these entries does not matter"
pub record Filled (d : Design) (initial : List ℕ) (offsets : List ℤ) : Type 0 where
  pub initial-long : initial_count d ≤ length initial
  pub offsets-long : offset_total d ≤ length offsets
  pub initial-entry : (A : ℕ) → A < initial_count d → get_or initial A 0 ≡ initial_at d A
  pub offset-entry : (i A index : ℕ) → i < d.m → A < 2 ^ a_of d i → index < stored_count d i
      → get_or offsets (stored_place d i A index) (pos 0) ≡ stored_offset d i A index
