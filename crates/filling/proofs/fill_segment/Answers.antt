-- `filling::fill_segment` meets its contract: after n turns the n words on either side of the middle have their entries.
use mathlib.Core.Path.{◌≡◌, ◌∙◌}
use Prim.Native.Nat.{◌+◌, ◌-◌, ◌^◌}
use native.Mathlib.Omega.{arith}
use mir.Syntax.{w32}
use mir.Val.{to_z, of_z}
use mir.ValLaws.{to_z-of_z}
use Rattle.general.proofs.SignedLaws.{mirror-is}
use Rattle.entries.specs.Entries.{offset_of}
use Rattle.entries.proofs.SignLaws.{even}
use Rattle.filling.specs.Segment.{segment_offsets}
use Rattle.filling.proofs.SegmentLaws.{outwards-start, outwards-next, outwards-end}
use Rattle.filling.proofs.fill_segment.Goals as goal
use Rattle.filling.proofs.fill_segment.Goals.{After-mirrored-other, After-offset_of-entry, After-pow2-half}

pub overflow_sub-b : goal.overflow_sub-b
overflow_sub-b c = omega (arith, c.requires.offset_input.b-low)

pub pow2-half-requires : goal.pow2-half-requires
pow2-half-requires c = omega (arith, c.requires.offset_input.bits)

pub loop-far-init : goal.loop-far-init
loop-far-init c = outwards-start _ _ _

-- half of 2^b
twice : (c : After-pow2-half) → 2 ^ c.args.b ≡ c.pow2-half.result + c.pow2-half.result
twice c = omega (arith, even c.args.b c.requires.offset_input.b-low, c.pow2-half.ensures)

-- both entries, as their bits are read
entry-is : (c : After-offset_of-entry) → to_z w32 (of_z w32 c.offset_of-entry.result) ≡ c.offset_of-entry.result
entry-is c = to_z-of_z w32 _ (record { sfits = c.offset_of-entry.type_inv })

other-is : (c : After-mirrored-other) → let a = c.args in
    to_z w32 (of_z w32 c.mirrored-other.result)
    ≡ offset_of a.slopes a.b a.p a.rising (c.pow2-half.result - 1 - c.loop-far.far)
other-is c =
    let word : 2 ^ c.args.b - 1 - (c.pow2-half.result + c.loop-far.far) ≡ c.pow2-half.result - 1 - c.loop-far.far =
    omega (arith, twice c.before.before.before.before) in
    to_z-of_z w32 _ (record { sfits = c.mirrored-other.type_inv }) ∙ c.mirrored-other.ensures
    ∙ rw (entry-is c.before) (mirror-is c.offset_of-entry.result _ (rw word at c.offset_of-entry.ensures.meaning.mirrored))

pub loop-far-preserved : goal.loop-far-preserved
loop-far-preserved c =
    outwards-next _ _ _ (c.requires.length_value ∙ twice c.before.before.before.before) c.loop-far.invariant c.loop-far-test.true
    (entry-is c.before ∙ c.offset_of-entry.ensures.value) (other-is c)

pub returns : goal.returns
unfolding segment_offsets
returns c =
    let half = twice c.before.before in
    rw half (outwards-end _ _ _ (c.requires.length_value ∙ half) c.loop-far.invariant (omega arith))
