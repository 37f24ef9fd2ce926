-- `sizing::bits_of` meets its contract: the digits of the widest offset's T, and one bit for the sign.
use mathlib.Core.Path.{◌≡◌, sym, ◌∙◌}
use Prim.Native.Nat.{ℕ, ◌+◌, ◌-◌, ◌*◌, ◌^◌, ◌≤◌, ◌<◌}
use lib.IntN.{pos}
use native.Mathlib.Omega.{arith}
use Rattle.general.specs.Digits.{Digits}
use Rattle.entries.specs.Entries.{magnitude}
use Rattle.entries.specs.Inputs.{OffsetInput, reach_bound}
use Rattle.entries.proofs.EntryBounds.{product_small}
use Rattle.sizing.specs.Width.{most_bits}
use Rattle.sizing.specs.Widest.{widest_offset, bits_for}
use Rattle.sizing.proofs.BitsLaws.{bits-counted}
use Rattle.sizing.proofs.SizeLaws.{widest-small, digits-few}
use Rattle.sizing.proofs.bits_of.Goals as goal

-- T and its digits, as the calls give them
module _ (slopes b p high T count : ℕ) (fit : OffsetInput slopes b p) (high_is : high ≡ 2 ^ b) (T-is : T ≡ magnitude slopes p (pos (high - 1)))
    (digits : Digits T count) where
  widest-is : T ≡ widest_offset slopes b p
  unfolding widest_offset
  widest-is = T-is ∙ rw high_is

  few : count < most_bits
  few = digits-few T count (rw widest-is (widest-small slopes b p fit)) digits

  counted : count + 1 ≡ bits_for (widest_offset slopes b p)
  counted = rw (← widest-is) (sym (bits-counted T count digits few))

-- The largest |j| is small enough.
asked : (slopes b p high : ℕ) → OffsetInput slopes b p → high ≡ 2 ^ b → slopes * (high - 1) * 2 ^ p ≤ reach_bound
asked slopes b p high fit high_is = product_small slopes b p (high - 1) fit.small (omega (arith, high_is))

pub returns : goal.returns
returns c =
    let t = c.before in
    counted _ _ _ _ _ _ t.requires t.pow2.ensures t.magnitude_of-t.ensures c.digit_count.ensures

pub magnitude_of-t-requires : goal.magnitude_of-t-requires
magnitude_of-t-requires c = let fit = c.requires in (asked _ _ _ _ fit c.pow2.ensures, omega (arith, fit.bits))

pub overflow_add-result : goal.overflow_add-result
overflow_add-result c =
    let t = c.before in
    omega (
      arith,
      few _ _ _ _ _ _ t.requires t.pow2.ensures t.magnitude_of-t.ensures c.digit_count.ensures,
    )
