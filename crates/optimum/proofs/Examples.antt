-- Worked examples of the search, computed from the definitions. The numbers are those of the requests, or were worked out from the
-- documents apart from the definitions.
use Rattle.std.specs.Prelude.{Option, None, Some, Err}
use mathlib.Core.Path.{◌≡◌, refl}
use mathlib.Core.Bool.{true, false}
use mathlib.Core.List.{[], ◌∷◌, map}
use Prim.Native.Nat.{ℕ}
use native.Mathlib.Omega.{arith}
use lib.ListN.{length, take}
use Rattle.general.specs.Below.{joined}
use Rattle.refusal.specs.declared.Cause.{Cause}
use Rattle.refusal.specs.Checks.{verdict}
use Rattle.values.specs.Widths.{limits_of, function_checks}
use Rattle.design.specs.declared.Pair.{Pair}
use Rattle.design.specs.declared.Design.{Design}
use Rattle.design.specs.Cut.{no_pair}
use Rattle.design.specs.Budget.{budget}
use Rattle.sizing.specs.Size.{size}
use Rattle.sizing.proofs.Opened.{sizing-opened}
use Rattle.searching.specs.declared.SizedDesign.{SizedDesign}
use Rattle.searching.specs.Designs.{bare, with_pair, continued}
use Rattle.searching.specs.Best.{is_admitted, fewer, better, best_of}
use Rattle.optimum.specs.Order.{Before, by-m}

abbrev pair : ℕ → ℕ → Pair
pair a b = record { a = a; b = b }

abbrev design : ℕ → ℕ → ℕ → ℕ → ℕ → ℕ → Pair → Pair → Pair → Design
design kind w q g alpha m first second third =
    record { kind = kind; w = w; q = q; g = g; alpha = alpha; m = m; pairs = first ∷ second ∷ third ∷ no_pair ∷ [] }

-- "kind 0, w 8, q 8: 728 bits, g 5, alpha 5, (2,1) (3,1) (3,1)"; document 01's G; and G with (2,3), which has fewer bits and is not admitted
abbrev best-of-8 : Design
best-of-8 = design 0 8 8 5 5 3 (pair 2 1) (pair 3 1) (pair 3 1)

abbrev G : Design
G = design 0 8 8 4 5 1 (pair 3 3) no_pair no_pair

abbrev cheaper : Design
cheaper = design 0 8 8 4 5 1 (pair 2 3) no_pair no_pair

-- Two of kind 3, w 7, q 8 with 416 bits each, of which m decides
abbrev two : Design
two = design 3 7 8 4 4 2 (pair 2 2) (pair 3 1) no_pair

abbrev three : Design
three = design 3 7 8 4 4 3 (pair 1 1) (pair 3 1) (pair 3 1)

-- "Kind 0, w 16, q 16: 30464 bits, the same design as before", which is g 4, alpha 10, (5,2) (6,2) (7,2)
abbrev widest : Design
widest = design 0 16 16 4 10 3 (pair 5 2) (pair 6 2) (pair 7 2)

-- One whose budget is the limit 2^21
abbrev at-limit : Design
at-limit =
    record {
      kind = 4;
      w = 11;
      q = 13;
      g = 4;
      alpha = 7;
      m = 4;
      pairs = pair 3 1 ∷ pair 7 1 ∷ pair 4 1 ∷ pair 5 1 ∷ [];
    }

abbrev measured : Design → ℕ × ℕ
measured d = (budget d, size d)

abbrev with_size : Design → ℕ → Option SizedDesign
with_size d bits = Some (record { design = d; bits = bits })

pub record Examples : Type 0 where
  pub eight : measured best-of-8 ≡ (3973610, 728)
  pub both : (measured two ≡ (2040432, 416)) × (measured three ≡ (2092494, 416))
  pub admitted : map is_admitted (best-of-8 ∷ two ∷ three ∷ widest ∷ cheaper ∷ []) ≡ true ∷ true ∷ true ∷ true ∷ false ∷ []
  pub wide : measured widest ≡ (2002756, 30464)
  -- "less than 2^(g+17)"
  pub limit : (budget at-limit ≡ 2097152) × (is_admitted at-limit ≡ false)
  -- "m decides"
  pub decided : Before two three
  -- the first of equals, whichever that is, and none that is not admitted
  pub best : map (best_of None)
      ((G ∷ cheaper ∷ best-of-8 ∷ []) ∷ (two ∷ three ∷ []) ∷ (three ∷ two ∷ []) ∷ (cheaper ∷ []) ∷ [])
      ≡ with_size best-of-8 728 ∷ with_size two 416 ∷ with_size three 416 ∷ None ∷ []
  -- "a_i before b_i, smaller first": 2·8 pairs for alpha 2 and one table, and 16·16 for two
  pub first-pairs : map (λ d. d.pairs) (take 3 (continued 1 (bare 0 6 6 2 2 1) 0))
      ≡ (pair 1 1 ∷ no_pair ∷ no_pair ∷ no_pair ∷ []) ∷ (pair 1 2 ∷ no_pair ∷ no_pair ∷ no_pair ∷ [])
      ∷ (pair 1 3 ∷ no_pair ∷ no_pair ∷ no_pair ∷ []) ∷ []
  pub how-many : map (λ m. length (continued m (bare 0 6 6 2 2 m) 0)) (1 ∷ 2 ∷ []) ≡ 16 ∷ 256 ∷ []
  -- 1, 2, 3 in this order
  pub checks : (verdict (function_checks (limits_of 5) 5 5 5) ≡ Err Cause.Kind)
      × (verdict (function_checks (limits_of 0) 0 5 5) ≡ Err Cause.InputWidth)
      × (verdict (function_checks (limits_of 0) 0 6 5) ≡ Err Cause.OutputWidth)

pub examples : Examples
unfolding sizing-opened joined bare with_pair continued is_admitted fewer better best_of
examples =
    record {
      eight = refl;
      both = (refl, refl);
      admitted = refl;
      wide = refl;
      limit = (refl, refl);
      decided = by-m refl refl (omega arith);
      best = refl;
      first-pairs = refl;
      how-many = refl;
      checks = (refl, refl, refl);
    }
