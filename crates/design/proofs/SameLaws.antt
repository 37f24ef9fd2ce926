-- Designs of which the same is read differ in their pairs alone, and are measured alike.
use mathlib.Core.Path.{◌≡◌, ap, ◌∙◌}
use mathlib.Core.List.{List}
use Prim.Native.Nat.{ℕ}
use Rattle.general.proofs.Sums.{sum-congruence}
use Rattle.design.specs.declared.Pair.{Pair}
use Rattle.design.specs.declared.Design.{Design}
use Rattle.design.specs.Cut.{tables, pair_at, a_of, b_of, position}
use Rattle.design.specs.Same.{Same}
use Rattle.design.specs.Legal.{table_breaks, cut_checks, design_checks, design_verdict}
use Rattle.design.specs.Budget.{reach, table_budget, budget, limit}

-- The design with other pairs
abbrev pub with-pairs : Design → List Pair → Design
with-pairs d pairs = record { kind = d.kind; w = d.w; q = d.q; g = d.g; alpha = d.alpha; m = d.m; pairs = pairs }

pub only-pairs : (P : Design → Type 0) (d e : Design) → Same d e
    → ((pairs : List Pair) → tables d ≡ tables (with-pairs d pairs) → P (with-pairs d pairs)) → P e
unfolding tables
only-pairs P d e s p =
    rw (← s.kind, ← s.w, ← s.q, ← s.g, ← s.alpha, ← s.m) (p e.pairs (s.tables ∙ rw s.m))

module _ (d e : Design) (s : Same d e) where
  pub pair_same : (i : ℕ) → pair_at d i ≡ pair_at e i
  unfolding pair_at
  pair_same i = rw s.tables

  pub position-same : (i : ℕ) → position d i ≡ position e i
  unfolding position
  position-same i = sum-congruence i (b_of d) (b_of e) (λ j h. ap (λ (pair : Pair). pair.b) (pair_same j))

  pub verdict-same : design_verdict d ≡ design_verdict e
  unfolding pair_at position table_breaks cut_checks design_checks design_verdict
  verdict-same = only-pairs (λ e. design_verdict d ≡ design_verdict e) d e s (λ pairs t. rw (t, a_of, b_of, table_breaks))

  pub budget-same : budget d ≡ budget e
  unfolding pair_at position reach table_budget budget
  budget-same = only-pairs (λ e. budget d ≡ budget e) d e s (λ pairs t. rw (t, a_of, b_of, table_budget))

  pub limit-same : limit d ≡ limit e
  unfolding limit
  limit-same = rw s.g
