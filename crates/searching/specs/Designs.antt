-- Document 02, A5: "Go through every legal design of that kind, w and q .. by g, then alpha, m, and the pairs from table 0, a_i before b_i,
-- smaller first." The designs, as a list in that order.
use Rattle.std.specs.Prelude.{List, [], ◌∷◌, ℕ, zero, suc, ◌+◌, set}
use Rattle.general.specs.Below.{for_each}
use Rattle.values.specs.Widths.{limits_of}
use Rattle.design.specs.declared.Design.{Design}
use Rattle.design.specs.Limits.{least_initial_bits, most_initial_bits, most_tables, most_offset_bits}
use Rattle.design.specs.Cut.{no_pair}

-- A design of which no pair is chosen yet: "its pairs beyond m all 0"
unfoldable pub bare : ℕ → ℕ → ℕ → ℕ → ℕ → ℕ → Design
bare kind w q g alpha m =
    record {
      kind = kind;
      w = w;
      q = q;
      g = g;
      alpha = alpha;
      m = m;
      pairs = no_pair ∷ no_pair ∷ no_pair ∷ no_pair ∷ [];
    }

-- The design with this pair for table i
unfoldable pub with_pair : Design → ℕ → ℕ → ℕ → Design
with_pair d i a b =
    record {
      kind = d.kind;
      w = d.w;
      q = d.q;
      g = d.g;
      alpha = d.alpha;
      m = d.m;
      pairs = set d.pairs i (record { a = a; b = b });
    }

-- "the pairs from table 0, a_i before b_i, smaller first": what becomes of d with each choice of n more pairs, from table i on,
-- each a_i within 1..alpha and each b_i within 1..8.
unfoldable pub continued : ℕ → Design → ℕ → List Design
continued zero d i = d ∷ []
continued (suc n) d i =
    for_each 1 d.alpha (λ a. for_each 1 most_offset_bits (λ b. continued n (with_pair d i a b) (i + 1)))

-- "by g, then alpha, m, and the pairs": g within 2..6, alpha within 2..13, m within 1..4. Every legal design is among them; those of them
-- that are not legal are not admitted.
unfoldable pub designs : ℕ → ℕ → ℕ → List Design
designs kind w q =
    for_each (limits_of kind).g.0 (limits_of kind).g.1 (λ g.
    for_each least_initial_bits most_initial_bits (λ alpha.
    for_each 1 most_tables (λ m. continued m (bare kind w q g alpha m) 0)))
