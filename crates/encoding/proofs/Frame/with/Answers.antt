-- `encoding::Frame::with` meets its contract: with each turn the highest byte that is left is written behind the others.
use mathlib.Core.Path.{◌≡◌, refl}
use native.Mathlib.Omega.{arith}
use borrow.Author.Rules.{rules}
use lib.ListN.{length}
use Rattle.frames.specs.Line.{capacity}
use Rattle.encoding.proofs.NumberBytes.{appended-more, appended-all}
use Rattle.encoding.proofs.Frame.with.Goals as goal

pub loop-left-init : goal.loop-left-init
loop-left-init c =
    let full : length c.args.self.bytes ≡ capacity = search rules in
    record { long = full; place = refl; room = c.requires.room; narrow = c.requires.narrow; so_far = refl }

pub loop-left-preserved : goal.loop-left-preserved
loop-left-preserved c = appended-more c.loop-left.invariant c.loop-left-test.true

pub returns : goal.returns
returns c = record { result_value = appended-all c.loop-left.invariant (omega arith); count_value = omega arith }
