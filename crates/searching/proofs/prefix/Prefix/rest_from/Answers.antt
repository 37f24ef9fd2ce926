-- `searching::prefix::Prefix::rest_from` meets its contract.
use native.Mathlib.Nat.{lt_of_le_of_lt}
use native.Mathlib.Omega.{arith}
use lib.Dec.{lit<}
use lib.Pow.{pow_mono}
use Rattle.searching.specs.Search.{rest_from}
use Rattle.searching.proofs.SmallLaws.{widths, rest-few}
use Rattle.searching.proofs.prefix.Prefix.rest_from.Goals as goal

pub returns : goal.returns
unfolding rest_from
returns c = rw (c.pow2.ensures, c.pow2-2.ensures)

pub pow2-requires : goal.pow2-requires
pow2-requires c = omega (arith, (widths _ c.args.self.now.so_far.begun).room.w-small)

pub pow2-requires-2 : goal.pow2-requires-2
pow2-requires-2 c = omega (arith, c.requires, (widths _ c.args.self.now.so_far.begun).room.w-small)

pub overflow_sub-result : goal.overflow_sub-result
overflow_sub-result c = rw (c.pow2.ensures, c.pow2-2.ensures) (pow_mono c.requires)

pub overflow_mul-result : goal.overflow_mul-result
unfolding rest_from
overflow_mul-result c =
    let s = c.args.self.now in
    rw (c.pow2.ensures, c.pow2-2.ensures) (record { fits = lt_of_le_of_lt (rest-few _ s.so_far.begun _ _ s.none_below) (lit< tt) })
