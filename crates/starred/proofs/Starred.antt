-- Document 01, "Examples": those marked *, as one list about the definitions, the budgets as document 02, A7, has them. The checker computes
-- each.
use Rattle.values.specs.declared.FloorValue.{FloorValue}
use Rattle.refusal.specs.declared.Cause.{Cause}
use Rattle.std.specs.Prelude.{Result, Ok}
use mathlib.Core.Path.{◌≡◌, refl}
use mathlib.Core.Bool.{Bool, false}
use mathlib.Core.List.{[], ◌∷◌}
use Prim.Native.Nat.{ℕ}
use lib.Dec.{lit<}
use lib.IntN.{ℤ, pos, neg_ℤ}
use lib.ListN.{take}
use Rattle.refusal.specs.Numbers.{verdict_number}
use Rattle.values.specs.Value.{value_of}
use Rattle.design.specs.declared.Design.{Design}
use Rattle.design.specs.Cut.{no_pair}
use Rattle.design.specs.Budget.{budget, limit, Admitted}
use Rattle.entries.specs.Entries.{initial_at}
use Rattle.tables.specs.Sum.{sum_at}
use Rattle.filling.specs.Fill.{fill_verdict, initial_entries, offset_entries}
use Rattle.evaluating.specs.Evaluate.{evaluate_answer}
use Rattle.error_bound.specs.ErrorBound.{Holds}
use Rattle.error_bound.proofs.Holds.{error-bound}
use Rattle.starred.proofs.Opened.{calls-opened}

-- "G is kind 0, w 8, q 8, g 4, alpha 5, m 1, (3,3)", here with the guard bits and the first pair given
abbrev pub G-with : ℕ → ℕ → ℕ → Design
G-with g a b =
    record {
      kind = 0;
      w = 8;
      q = 8;
      g = g;
      alpha = 5;
      m = 1;
      pairs = record { a = a; b = b } ∷ no_pair ∷ no_pair ∷ no_pair ∷ [];
    }

abbrev pub G : Design
G = G-with 4 3 3

abbrev minus : ℕ → ℤ
minus n = neg_ℤ (pos n)

-- The answer L, and whether it is E
abbrev pub value-is : ℕ → Bool → Result FloorValue Cause
value-is n whole = Ok (record { units = record { 0 = pos n }; whole = whole })

pub record Starred : Type 0 where
  -- "*L for g 4, q 8, w 8: kind 1, x 255: 5786; *kind 4, x 0: 2896."
  pub value-1 : value_of 1 8 8 4 255 ≡ value-is 5786 false
  pub value-4 : value_of 4 8 8 4 0 ≡ value-is 2896 false
  -- "*G: budget 1895955, admitted." A7: "For G the budget becomes 1,894,163"
  pub G-budget : budget G ≡ 1894163
  pub G-admitted : Admitted G
  -- "*With (2,3): 3008038, refused 11.", by the fill, tables of 32 and 32 entries being long enough. A7: "with (2,3) 3,006,246"
  pub G23-budget : budget (G-with 4 2 3) ≡ 3006246
  pub G23-refused : verdict_number (fill_verdict (G-with 4 2 3) 32 32) ≡ 11
  -- "*With g 3: 1146283 against 1048576, refused 11." A7: "with g 3 1,144,491"
  pub g3-budget : budget (G-with 3 3 3) ≡ 1144491
  pub g3-limit : limit (G-with 3 3 3) ≡ 1048576
  pub g3-refused : verdict_number (fill_verdict (G-with 3 3 3) 32 64) ≡ 11
  -- "*G, initial 0 is 4050. *Offsets 0..7 are 50, 35, 21, 7, -8, -22, -36, -51."
  pub G-initial : initial_at G 0 ≡ 4050
  pub G-offsets : take 8 (offset_entries G)
      ≡ pos 50 ∷ pos 35 ∷ pos 21 ∷ pos 7 ∷ minus 8 ∷ minus 22 ∷ minus 36 ∷ minus 51 ∷ []
  -- "*G, x 0: Y 4100, word 256. *x 7: Y 3999, word 249. *x 255: Y 2060, word 128."
  pub Y-0 : sum_at G (initial_entries G) (offset_entries G) 0 ≡ pos 4100
  pub Y-7 : sum_at G (initial_entries G) (offset_entries G) 7 ≡ pos 3999
  pub Y-255 : sum_at G (initial_entries G) (offset_entries G) 255 ≡ pos 2060
  pub word-0 : evaluate_answer G (initial_entries G) (offset_entries G) 0 ≡ Ok (record { 0 = 256 })
  pub word-7 : evaluate_answer G (initial_entries G) (offset_entries G) 7 ≡ Ok (record { 0 = 249 })
  pub word-255 : evaluate_answer G (initial_entries G) (offset_entries G) 255 ≡ Ok (record { 0 = 128 })

pub starred : Starred
unfolding calls-opened
starred =
    record {
      value-1 = refl;
      value-4 = refl;
      G-budget = refl;
      G-admitted = record { legal = refl; within = lit< tt };
      G23-budget = refl;
      G23-refused = refl;
      g3-budget = refl;
      g3-limit = refl;
      g3-refused = refl;
      G-initial = refl;
      G-offsets = refl;
      Y-0 = refl;
      Y-7 = refl;
      Y-255 = refl;
      word-0 = refl;
      word-7 = refl;
      word-255 = refl;
    }

-- So demand 3 holds for G: whoever fills G's tables, every word is right.
pub G-right : Holds G
G-right = error-bound G starred.G-admitted
