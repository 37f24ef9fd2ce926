-- `entries::top_bit` meets its contract: B's top bit tells on which side of 0 its j lies.
use Rattle.entries.proofs.SignLaws.{top-is}
use Rattle.entries.proofs.top_bit.Goals as goal

pub returns : goal.returns
returns c = top-is _ _ c.requires.b-low c.requires.B-lt
