-- `sizing::offset_bits` meets its contract: the bits of the table's widest offset are those of all.
use mathlib.Core.Path.{◌≡◌, sym, ◌∙◌}
use Prim.Native.Nat.{ℕ, ◌<◌}
use Rattle.values.specs.declared.slopes.LargestSlopes.{LargestSlopes}
use Rattle.values.specs.Slopes.{largest_slopes}
use Rattle.design.specs.declared.Pair.{Pair}
use Rattle.design.specs.declared.Design.{Design}
use Rattle.design.specs.Cut.{pair_at, a_of, row, fraction_bits, position}
use Rattle.design.proofs.LegalLaws.{Limits, limits}
use Rattle.entries.specs.Inputs.{OffsetInput}
use Rattle.sizing.specs.Width.{offset_bits}
use Rattle.sizing.specs.Widest.{widest_offset, bits_for}
use Rattle.sizing.proofs.WidthLaws.{offset-bits-is}
use Rattle.sizing.proofs.SizeLaws.{widest-input}
use Rattle.sizing.proofs.offset_bits.Goals as goal

-- the numbers of the table, as the calls give them
module _ (d : Design) (i at : ℕ) (pair : Pair) (slopes : LargestSlopes) (place : at ≡ position d i) (pair_is : pair ≡ pair_at d i)
    (slopes-are : slopes ≡ largest_slopes (row d) d.w (fraction_bits d) (a_of d i)) where
  asked : Limits d → i < d.m → OffsetInput slopes.sum pair.b at
  asked l h = rw (slopes-are, pair_is, place) (widest-input d i l h)

  bits_are : (bits : ℕ) → bits ≡ bits_for (widest_offset slopes.sum pair.b at) → bits ≡ offset_bits d i
  bits_are bits is = is ∙ rw (slopes-are, pair_is, place) (sym (offset-bits-is d i))

pub returns : goal.returns
returns c =
    let slopes = c.before in
    bits_are _ _ _ _ _ slopes.requires.1 slopes.pair-pair.ensures slopes.table_slopes-slopes.ensures _
    c.bits_of.ensures

pub pair-pair-requires : goal.pair-pair-requires
pair-pair-requires c = c.requires.0

pub bits_of-requires : goal.bits_of-requires
bits_of-requires c =
    let e = c.requires in
    asked _ _ _ _ _ e.1 c.pair-pair.ensures c.table_slopes-slopes.ensures (limits _ c.args.legal.legal) e.0
