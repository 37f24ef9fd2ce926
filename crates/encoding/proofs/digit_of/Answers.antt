-- `encoding::digit_of` meets its contract: the test is that of the definition.
use borrow.Author.Tests.{lt-ltb, le-ltb}
use Rattle.encoding.specs.Encode.{digit_of}
use Rattle.encoding.proofs.digit_of.Goals as goal

pub returns-then-n-lt10 : goal.returns-then-n-lt10
unfolding digit_of
returns-then-n-lt10 c = rw (lt-ltb _ _ c.if-n-lt10.true)

pub returns : goal.returns
unfolding digit_of
returns c = rw (le-ltb _ _ c.if-n-lt10.false)
