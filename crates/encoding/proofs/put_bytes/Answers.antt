-- `encoding::put_bytes` meets its contract: after i turns the digits of the first i bytes are put, and these bytes are summed.
use native.Mathlib.Omega.{arith}
use borrow.Author.Rules.{rules}
use Rattle.encoding.proofs.Putting.{put-none, put-more, put_all}
use Rattle.encoding.proofs.put_bytes.Goals as goal

pub loop-i-init : goal.loop-i-init
loop-i-init c = put-none c.requires

pub loop-i-preserved : goal.loop-i-preserved
loop-i-preserved c =
    put-more c.loop-i.invariant _ c.loop-i-test.true (search rules) c.put_byte.ensures

pub returns : goal.returns
returns c = put_all c.loop-i.invariant _ (omega arith) c.put_byte-2.ensures
