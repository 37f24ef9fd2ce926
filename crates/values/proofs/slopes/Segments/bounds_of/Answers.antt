-- `values::slopes::Segments::bounds_of` meets its contract: both ends lie on the segment.
use mathlib.Core.Path.{◌≡◌}
use Rattle.values.specs.Inputs.{FloorInput}
use Rattle.values.specs.Slopes as Slopes
use Rattle.values.proofs.Bounds.{start-input, end-input}
use Rattle.values.proofs.slopes.Segments.bounds_of.Goals as goal
use Rattle.values.proofs.slopes.Segments.bounds_of.Goals.{After-segment_end}

-- both ends can be asked for
ends : (c : After-segment_end) → let a = c.args in
    FloorInput a.self.row a.self.w a.self.p c.segment_start.result × FloorInput a.self.row a.self.w a.self.p c.segment_end.result
ends c =
    rw (c.segment_end.ensures, c.segment_start.ensures)
    (start-input _ _ _ _ _ c.args.self.fit c.requires, end-input _ _ _ _ _ c.args.self.fit c.requires)

pub hi-requires : goal.hi-requires
hi-requires c = search (ends c)

pub lo-requires : goal.lo-requires
lo-requires c = search (ends c.before)

pub returns : goal.returns
returns c =
    let b = c.before.before in
    let a = b.args in
    let low : c.lo.result ≡ Slopes.lo a.self.row a.self.w a.self.p (Slopes.segment_end a.self.w a.self.a a.segment)
    = rw (← b.segment_end.ensures) c.lo.ensures in
    rw (low, c.hi.ensures, b.segment_start.ensures)
