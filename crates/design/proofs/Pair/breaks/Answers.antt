-- `design::Pair::breaks` meets its contract: by the rule, and for 8 the first test settles the answer where it holds.
use Rattle.general.proofs.Tests.{tested}
use Rattle.design.specs.Legal as Legal
use Rattle.design.proofs.Pair.breaks.Goals as goal

pub returns-in-SegmentBits : goal.returns-in-SegmentBits
unfolding Legal.breaks
returns-in-SegmentBits c = rw c.in-SegmentBits.is c.outside.ensures

pub returns-then-outside : goal.returns-then-outside
unfolding Legal.breaks
returns-then-outside c =
    rw (c.in-OffsetBits.is, c.if-outside.true, tested c.outside-in-OffsetBits.ensures c.if-outside.true)

pub returns-else-outside : goal.returns-else-outside
unfolding Legal.breaks
returns-else-outside c =
    let b = c.before.before in
    rw (b.in-OffsetBits.is, tested b.outside-in-OffsetBits.ensures b.if-outside.false)
