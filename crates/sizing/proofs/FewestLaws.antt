-- The width that is found by trying is the fewest bits of all.
use mathlib.Core.Path.{◌≡◌, refl, ◌∙◌}
use mathlib.Core.Bool.{Bool, true, false}
use Prim.Native.Nat.{ℕ, ◌-◌, ◌^◌, ◌<◌}
use native.Mathlib.Decide.{dec_lt}
use native.Mathlib.Omega.{arith}
use borrow.Author.Tests.{lt-ltb}
use lib.Dec.{T}
use lib.IntN.{ℤ, pos, neg_ℤ}
use lib.Signed.{◌≤ℤ◌, ◌<ℤ◌, le_z, lt_z, le_z_yes, lt_z_yes}
use Rattle.general.proofs.Tests.{both, both_so}
use Rattle.general.proofs.Sums.{each_of, every_of}
use Rattle.general.proofs.FirstLaws.{first-low, first-high, first_passes, first-least}
use Rattle.design.specs.declared.Design.{Design}
use Rattle.design.specs.Cut.{a_of, b_of}
use Rattle.design.proofs.LegalLaws.{limits}
use Rattle.sizing.specs.Width.{holds, holds_all, most_bits, offset_bits}
use Rattle.sizing.specs.Fewest.{HoldsAll, FewestBits, Fewest}
use Rattle.sizing.proofs.WidthLaws.{widest_in, held-is}
use Rattle.sizing.proofs.SizeLaws.{widest-input, widest-small}

-- The test of a range passes exactly where both sides hold.
so : (t : Bool) → t ≡ true → T t
so t e = rw e tt

as-true : (t : Bool) → T t → t ≡ true
as-true true passed = refl
as-true false passed = absurd passed

module _ (n : ℕ) (z : ℤ) where
  abbrev low : Bool
  low = le_z (neg_ℤ (pos (2 ^ (n - 1)))) z

  abbrev high : Bool
  high = lt_z z (pos (2 ^ (n - 1)))

  in-range : holds n z ≡ true → (neg_ℤ (pos (2 ^ (n - 1))) ≤ℤ z) × (z <ℤ pos (2 ^ (n - 1)))
  unfolding holds
  in-range e = let parts = both low high e in (le_z_yes (so low parts.0), lt_z_yes (so high parts.1))

  is_held : (neg_ℤ (pos (2 ^ (n - 1))) ≤ℤ z) × (z <ℤ pos (2 ^ (n - 1))) → holds n z ≡ true
  unfolding holds
  is_held sides = both_so low high (as-true low sides.0.le) (as-true high sides.1.lt)

-- and so does that of all offsets.
module _ (d : Design) (i n : ℕ) where
  all-hold : holds_all d i n ≡ true → HoldsAll d i n
  unfolding holds_all
  all-hold all A B A-lt B-lt = in-range n _ (each_of (2 ^ b_of d i) _ (each_of (2 ^ a_of d i) _ all A A-lt) B B-lt)

  hold-all : HoldsAll d i n → holds_all d i n ≡ true
  unfolding holds_all
  hold-all held = every_of (2 ^ a_of d i) _ (λ A A-lt. every_of (2 ^ b_of d i) _ (λ B B-lt. is_held n _ (held A B A-lt B-lt)))

-- What is tried last holds every offset of a legal design, so the first that passes does.
module _ (d : Design) (i : ℕ) (small : widest_in d i < 2 ^ (most_bits - 1)) where
  enough : holds_all d i (offset_bits d i) ≡ true
  unfolding offset_bits
  enough =
      elim (dec_lt (offset_bits d i) most_bits) [
        | yes tried ↦ first_passes 1 (most_bits - 1) (holds_all d i) tried
        | no all ↦
            let last : offset_bits d i ≡ most_bits = omega (arith, first-high 1 (most_bits - 1) (holds_all d i)) in
            rw last (held-is d i most_bits ∙ lt-ltb _ _ small)
      ]

  fewest-bits : FewestBits d i (offset_bits d i)
  unfolding offset_bits
  fewest-bits =
      record {
        one = first-low 1 (most_bits - 1) (holds_all d i);
        enough = all-hold d i (offset_bits d i) enough;
        fewest = λ k one held. first-least 1 (most_bits - 1) (holds_all d i) k one (hold-all d i k held);
      }

pub fewest : Fewest
fewest d legal i h =
    fewest-bits d i (omega (arith, widest-small _ _ _ (widest-input d i (limits d legal) h)))
