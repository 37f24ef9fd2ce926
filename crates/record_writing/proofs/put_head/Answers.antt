-- `record_writing::put_head` meets its contract: the bytes of the head are copied over the window's start.
use mathlib.Core.Path.{ap, ◌∙◌}
use native.Mathlib.Omega.{arith}
use lib.ListN.{length-take}
use Rattle.general.specs.Lists.{over}
use Rattle.record_writing.proofs.WindowLaws.{put-over}
use Rattle.record_writing.proofs.put_head.Goals as goal

pub returns : goal.returns
returns c =
    let window = c.args.window.now in
    put-over window 0 4 c.copy_from_slice.new.self (c.copy_from_slice.ensures.len ∙ simp length-take (omega (arith, c.requires.in_bounds)))
    ∙ ap (over window 0) (c.copy_from_slice.ensures.after ∙ (rw c.head_of-head.ensures.count_value at c.head_of-head.ensures.result_value))
