-- `frames::frame_pair` meets its contract: the test of i against m picks the case of `frame_pair`, and each read is within the array.
use native.Mathlib.Omega.{arith}
use lib.ListN.{get_or}
use borrow.Author.Tests.{lt-ltb, le-ltb}
use Rattle.frames.specs.DesignFrame.{frame_pair}
use Rattle.frames.proofs.frame_pair.Goals as goal

pub returns-then-m-i : goal.returns-then-m-i
unfolding frame_pair
returns-then-m-i c = rw (le-ltb c.args.i (get_or c.args.bytes.now 6 0) (omega arith))

pub returns : goal.returns
unfolding frame_pair
returns c = rw (lt-ltb c.args.i (get_or c.args.bytes.now 6 0) (omega arith))
