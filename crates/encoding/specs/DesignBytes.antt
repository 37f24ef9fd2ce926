-- Document 01, "Bits, lines and the report": the frame 01 of a design, without its sum byte.
use Rattle.std.specs.Prelude.{List, [], ◌∷◌, ℕ}
use Rattle.design.specs.declared.Pair.{Pair}
use Rattle.design.specs.declared.Design.{Design}
use Rattle.design.specs.Cut.{tables}

-- "then a_i, b_i (a byte each)"
unfoldable pub pair_bytes : List Pair → List ℕ
pair_bytes [] = []
pair_bytes (pair ∷ pairs) = pair.a ∷ pair.b ∷ pair_bytes pairs

-- "01: kind, w, q, g, alpha, m, then a_i, b_i (a byte each)"
unfoldable pub design_bytes : Design → List ℕ
design_bytes d = 1 ∷ d.kind ∷ d.w ∷ d.q ∷ d.g ∷ d.alpha ∷ d.m ∷ pair_bytes (tables d)
