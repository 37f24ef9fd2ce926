-- The characters of a line, one after another, lead to what is kept of its fields, and what is kept tells what the line is.
use mathlib.Core.Path.{◌≡◌, refl, sym, ◌∙◌}
use mathlib.Core.Bool.{Bool, true, false, cond}
use mathlib.Core.List.{List, [], ◌∷◌, ◌++◌, append_assoc}
use Prim.Native.Nat.{ℕ, ◌-◌, min}
use native.Mathlib.Decide.{ℕ_discrete}
use native.Mathlib.Omega.{arith}
use borrow.Author.Tests.{ne_eqb}
use lib.Dec.{eqb}
use lib.ListN.{length, length-append}
use Rattle.word_text.proofs.DecimalLaws.{reading-goes-on, reading-tells}
use Rattle.question_text.specs.Question.{
  fields_from,
  fields,
  field,
  question_in,
  kept_of,
  number_at,
  with_character,
  question_of,
  fed,
}

-- Of four fields or more, three spaces are kept.
too_many : (a b d : List ℕ) (more : List (List ℕ)) (last : List ℕ) → min (length (a ∷ b ∷ d ∷ more ++ last ∷ []) - 1) 3 ≡ 3
too_many a b d more last = omega (arith, length-append more (last ∷ []))

module _ (f : List ℕ) (c : ℕ) where
  -- A space begins a field behind the last one, f.
  space : eqb c 32 ≡ true → (before : List (List ℕ)) → with_character (kept_of (before ++ f ∷ [])) c ≡ kept_of (before ++ f ∷ [] ++ [] ∷ [])
  unfolding with_character kept_of field
  space e [] = rw e
  space e (a ∷ []) = rw e
  space e (a ∷ b ∷ []) = rw e
  space e (a ∷ b ∷ d ∷ more) = rw (e, too_many a b d more f, too_many a b d (more ++ f ∷ []) [])

  -- Any other character belongs to the last field.
  other : eqb c 32 ≡ false → (before : List (List ℕ))
      → with_character (kept_of (before ++ f ∷ [])) c ≡ kept_of (before ++ (f ++ c ∷ []) ∷ [])
  unfolding with_character kept_of field number_at
  other e [] = rw (e, reading-goes-on f c)
  other e (a ∷ []) = rw (e, reading-goes-on f c)
  other e (a ∷ b ∷ []) = rw (e, reading-goes-on f c)
  other e (a ∷ b ∷ d ∷ more) = rw (e, too_many a b d more f, too_many a b d more (f ++ c ∷ []))

-- Once the fields `before` and the characters f of the next one came, the rest of the text leads to what is kept of all.
comes-to : (t f : List ℕ) (before : List (List ℕ)) → fed (kept_of (before ++ f ∷ [])) t ≡ kept_of (before ++ fields_from f t)
unfolding fed fields_from
comes-to [] f before = refl
comes-to (c ∷ cs) f before = by-test (comes-to cs) (eqb c 32) refl
  where
    by-test : ((f : List ℕ) (before : List (List ℕ)) → fed (kept_of (before ++ f ∷ [])) cs ≡ kept_of (before ++ fields_from f cs))
        → (is-space : Bool) → eqb c 32 ≡ is-space
        → fed (with_character (kept_of (before ++ f ∷ [])) c) cs
        ≡ kept_of (before ++ cond is-space (f ∷ fields_from [] cs) (fields_from (f ++ c ∷ []) cs))
    by-test rest true e = rw (space f c e before, ← append_assoc before (f ∷ []) (fields_from [] cs)) (rest [] (before ++ f ∷ []))
    by-test rest false e = rw (other f c e before) (rest (f ++ c ∷ []) before)

-- Fed from the start, a text leads to what is kept of its fields.
pub all-kept : (t : List ℕ) → fed (kept_of (fields [])) t ≡ kept_of (fields t)
unfolding fields fields_from
all-kept t = comes-to t [] []

-- Two spaces, three fields
three-fields : (n : ℕ) → eqb (min (n - 1) 3) 2 ≡ eqb n 3
three-fields n = elim (ℕ_discrete n 3) [
  | yes e ↦ rw e
  | no more ↦ ne_eqb (min (n - 1) 3) 2 (λ two. more (omega arith)) ∙ sym (ne_eqb n 3 more)
]

-- What is kept tells what the line is.
pub kept-tells : (t : List ℕ) → question_of (kept_of (fields t)) ≡ question_in t
unfolding question_of kept_of question_in number_at
kept-tells t =
    rw (
      three-fields (length (fields t)),
      reading-tells (field (fields t) 0),
      reading-tells (field (fields t) 1),
      reading-tells (field (fields t) 2),
    )

-- For every text: `new`, then `with` for one character after another, then `question`, come to what the text is.
pub line_read : (t : List ℕ) → question_of (fed (kept_of (fields [])) t) ≡ question_in t
line_read t = rw (all-kept t) (kept-tells t)
