-- Each input lands in the first class that fits, and its word is faithful exactly where that class is nearest or faithful.
use mathlib.Core.Path.{◌≡◌, refl}
use mathlib.Core.Bool.{Bool, true, false, cond}
use mathlib.Core.List.{List}
use Prim.Native.Nat.{ℕ, ◌+◌, ◌^◌, ◌≤◌, ◌<◌}
use native.Mathlib.Omega.{arith}
use lib.IntN.{ℤ}
use Rattle.values.specs.declared.rows.Row.{Row}
use Rattle.values.specs.Rows.{Lawful}
use Rattle.values.specs.Inputs.{InRange}
use Rattle.values.specs.Faithful.{is_faithful, is_nearest, is_too_low}
use Rattle.values.proofs.FaithfulLaws.{
  faithful-test,
  faithful-tested,
  nearest-test,
  nearest-tested,
  low-test,
  low-tested,
  high-test,
  nearest-faithful,
}
use Rattle.design.specs.declared.Design.{Design}
use Rattle.design.specs.Cut.{row}
use Rattle.tables.specs.Sum.{sum_at, sum_outside, word_at}
use Rattle.checking.specs.Check.{FaithfulWord}
use Rattle.counting.specs.declared.Class.{Class}
use Rattle.counting.specs.Count.{rank_of, class_of, class_at}
use Rattle.agreement.specs.Agreement.{HasWord, Fits, Lands}

-- How late a class can come that is not one of the first, or any
up-to-faithful : (n : Bool) → rank_of (cond n Class.Nearest Class.Faithful) ≤ 2
up-to-faithful true = omega arith
up-to-faithful false = omega arith

up-to-low : (n f : Bool) → rank_of (cond n Class.Nearest (cond f Class.Faithful Class.Low)) ≤ 3
up-to-low true f = omega arith
up-to-low false true = omega arith
up-to-low false false = omega arith

pub up-to-high : (class : Class) → rank_of class ≤ 4
up-to-high Class.Outside = omega arith
up-to-high Class.Nearest = omega arith
up-to-high Class.Faithful = omega arith
up-to-high Class.Low = omega arith
up-to-high Class.High = omega arith

module _ (d : Design) (initial : List ℕ) (offsets : List ℤ) (x : ℕ) where
  -- A test of the input's word
  abbrev at : (Row → ℕ → ℕ → ℕ → ℕ → Bool) → Bool
  at test = test (row d) d.w d.q (2 ^ d.w + x) (word_at d initial offsets x)

  abbrev outside : Bool
  outside = sum_outside d (sum_at d initial offsets x)

  fits : Fits d initial offsets x (class_at d initial offsets x)
  unfolding class_at class_of word_at
  fits = go outside refl (at is_nearest) refl (at is_faithful) refl (at is_too_low) refl
    where
      go : (o : Bool) → outside ≡ o → (n : Bool) → at is_nearest ≡ n → (f : Bool) → at is_faithful ≡ f → (l : Bool) → at is_too_low ≡ l
          → Fits d initial offsets x (cond o Class.Outside (cond n Class.Nearest (cond f Class.Faithful (cond l Class.Low Class.High))))
      go true eo n en f ef l el = eo
      go false eo true en f ef l el = (eo, nearest-test _ _ _ _ _ en)
      go false eo false en true ef l el = (eo, faithful-test _ _ _ _ _ ef)
      go false eo false en false ef true el = (eo, low-test _ _ _ _ _ el)
      go false eo false en false ef false el = (eo, high-test _ _ _ _ _ ef el)

  first : (class : Class) → Fits d initial offsets x class → rank_of (class_at d initial offsets x) ≤ rank_of class
  unfolding class_at class_of word_at
  first Class.Outside h = rw h (omega arith)
  first Class.Nearest h = rw (h.0, nearest-tested _ _ _ _ _ h.1) (omega arith)
  first Class.Faithful h = rw (h.0, faithful-tested _ _ _ _ _ h.1) (up-to-faithful (at is_nearest))
  first Class.Low h = rw (h.0, low-tested _ _ _ _ _ h.1) (up-to-low (at is_nearest) (at is_faithful))
  first Class.High h = up-to-high (class_at d initial offsets x)

  pub lands : Lands d initial offsets x
  lands = record { fits = fits; first = first }

  -- A word 0 is neither nearest nor faithful.
  pub zero-low : HasWord d initial offsets x (λ row w q X y. y ≡ 0) → class_at d initial offsets x ≡ Class.Low
  unfolding class_at class_of word_at is_nearest is_faithful is_too_low
  zero-low h = rw (h.0, h.1) refl

  -- A faithful word's class is one of the two,
  good-class : (n : Bool) → (1 ≤ rank_of (cond n Class.Nearest Class.Faithful)) × (rank_of (cond n Class.Nearest Class.Faithful) ≤ 2)
  good-class true = (omega arith, omega arith)
  good-class false = (omega arith, omega arith)

  pub faithful-class : FaithfulWord d initial offsets x
      → (1 ≤ rank_of (class_at d initial offsets x)) × (rank_of (class_at d initial offsets x) ≤ 2)
  unfolding class_at class_of word_at
  faithful-class f = rw (f.has_word, faithful-tested _ _ _ _ _ f.faithful) (good-class (at is_nearest))

  -- and the other way round.
  pub class-faithful : Lawful (row d) → x < 2 ^ d.w → 1 ≤ rank_of (class_at d initial offsets x)
      → rank_of (class_at d initial offsets x) ≤ 2 → FaithfulWord d initial offsets x
  class-faithful lawful h = by-class (class_at d initial offsets x) fits
    where
      range : InRange d.w (2 ^ d.w + x)
      range = record { low = omega arith; high = omega arith }

      by-class : (class : Class) → Fits d initial offsets x class → 1 ≤ rank_of class → rank_of class ≤ 2 → FaithfulWord d initial offsets x
      by-class Class.Outside f low high = absurd (omega arith)
      by-class Class.Nearest f low high = record { has_word = f.0; faithful = nearest-faithful _ _ _ _ _ lawful range f.1 }
      by-class Class.Faithful f low high = record { has_word = f.0; faithful = f.1 }
      by-class Class.Low f low high = absurd (omega arith)
      by-class Class.High f low high = absurd (omega arith)
