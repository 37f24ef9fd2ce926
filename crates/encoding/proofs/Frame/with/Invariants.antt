-- `encoding::Frame::with` meets its contract: with each turn the highest byte that is left is written behind the others.
use Rattle.encoding.proofs.NumberBytes.{Appending}
use Rattle.encoding.proofs.Frame.with.Given as goal

abbrev pub invariant-loop-left : goal.invariant-loop-left
invariant-loop-left l = Appending l.initial.self.bytes l.self.bytes l.initial.self.count l.width l.number l.at l.left
