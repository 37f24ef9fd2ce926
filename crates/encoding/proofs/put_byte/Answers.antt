-- `encoding::put_byte` meets its contract: the two stores are the two digits of the byte, one behind the other.
use Rattle.encoding.proofs.Putting.{byte_put}
use Rattle.encoding.proofs.put_byte.Goals as goal

pub returns : goal.returns
returns c =
    byte_put _ _ _ _ _ c.requires c.digit_of.ensures c.digit_of-2.ensures
