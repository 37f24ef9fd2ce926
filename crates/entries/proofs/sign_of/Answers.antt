-- `entries::sign_of` meets its contract: the side and the function's sign, as 0 or 1 each, are the same or not.
use mathlib.Core.Path.{◌≡◌, refl}
use mathlib.Core.Bool.{Bool, true, false, cond}
use lib.Bits.{bit_xor}
use mir.Val.{bool_byte}
use Rattle.entries.specs.Entries.{odd_number}
use Rattle.entries.specs.Signs.{sign_of}
use Rattle.entries.proofs.SignLaws.{sign-is}
use Rattle.entries.proofs.sign_of.Goals as goal
use Rattle.entries.proofs.sign_of.Goals.{After-top_bit-top}

-- what a cast makes of a bool
bit_is : (t : Bool) → bool_byte t ≡ cond t 1 0
bit_is true = refl
bit_is false = refl

-- the sign, by the top bit and the function's sign
sign-by : (c : After-top_bit-top) → let a = c.args in
    bit_xor c.top_bit-top.result (bool_byte a.rising) ≡ sign_of a.rising (odd_number a.b a.word)
sign-by c = rw (c.top_bit-top.ensures, bit_is c.args.rising) (sign-is _ _)

pub returns : goal.returns
returns c = sign-by c
