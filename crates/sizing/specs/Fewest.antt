-- Document 02, A6, as a statement: that the width which the definition finds by trying is the fewest bits of all.
use Rattle.std.specs.Prelude.{ℕ, ◌-◌, ◌^◌, ◌≤◌, ◌<◌, pos, neg_ℤ, ◌≤ℤ◌, ◌<ℤ◌}
use Rattle.design.specs.declared.Design.{Design}
use Rattle.design.specs.Cut.{a_of, b_of}
use Rattle.design.specs.Legal.{Legal}
use Rattle.entries.specs.Entries.{offset_at}
use Rattle.sizing.specs.Width.{offset_bits}

-- "whose two's complement range holds every offset that the fill writes in it"
abbrev pub HoldsAll : Design → ℕ → ℕ → Type 0
HoldsAll d i n =
    (A B : ℕ) → A < 2 ^ a_of d i → B < 2 ^ b_of d i → (neg_ℤ (pos (2 ^ (n - 1))) ≤ℤ offset_at d i A B) × (offset_at d i A B <ℤ pos (2 ^ (n - 1)))

-- "the fewest bits, at least 1"
pub record FewestBits (d : Design) (i n : ℕ) : Type 0 where
  pub one : 1 ≤ n
  pub enough : HoldsAll d i n
  pub fewest : (k : ℕ) → 1 ≤ k → HoldsAll d i k → n ≤ k

-- of each table of a legal design, admitted or not
abbrev pub Fewest : Type 0
Fewest = (d : Design) → Legal d → (i : ℕ) → i < d.m → FewestBits d i (offset_bits d i)
