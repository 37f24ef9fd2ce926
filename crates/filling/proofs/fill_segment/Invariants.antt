-- `filling::fill_segment` meets its contract: after n turns the n words on either side of the middle have their entries.
use Rattle.entries.specs.Entries.{offset_of}
use Rattle.filling.proofs.SegmentLaws.{Outwards}
use Rattle.filling.proofs.fill_segment.Given as goal

abbrev pub invariant-loop-far : goal.invariant-loop-far
invariant-loop-far l = Outwards (offset_of l.slopes l.b l.p l.rising) l.initial.segment l.segment l.half l.far
