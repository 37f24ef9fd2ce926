-- Document 02, A5: "the first by g, then alpha, m, and the pairs from table 0, a_i before b_i, smaller first". A design comes before
-- another by the first of these numbers in which they differ.
use Rattle.std.specs.Prelude.{◌≡◌, ℕ, ◌<◌}
use Rattle.design.specs.declared.Design.{Design}
use Rattle.design.specs.Cut.{pair_at, a_of, b_of}

-- The same g, alpha and m, and the same pairs before table i
pub record SameBefore (d e : Design) (i : ℕ) : Type 0 where
  pub g : d.g ≡ e.g
  pub alpha : d.alpha ≡ e.alpha
  pub m : d.m ≡ e.m
  pub pairs : (j : ℕ) → j < i → pair_at d j ≡ pair_at e j

pub data Before (d e : Design) : Type 0 where
  by-g : d.g < e.g → Before d e
  by-alpha : d.g ≡ e.g → d.alpha < e.alpha → Before d e
  by-m : d.g ≡ e.g → d.alpha ≡ e.alpha → d.m < e.m → Before d e
  by-a : (i : ℕ) → i < d.m → SameBefore d e i → a_of d i < a_of e i → Before d e
  by-b : (i : ℕ) → i < d.m → SameBefore d e i → a_of d i ≡ a_of e i → b_of d i < b_of e i → Before d e
