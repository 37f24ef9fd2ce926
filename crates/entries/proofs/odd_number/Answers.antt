-- `entries::odd_number` meets its contract: both counts fit a signed number, and so does their difference.
use mathlib.Core.Path.{◌≡◌, ap, ◌∙◌}
use Prim.Native.Nat.{ℕ, ◌+◌, ◌*◌, ◌^◌, ◌<◌}
use native.Mathlib.Omega.{arith}
use lib.IntN.{pos, sub_ℕ, ◌-ℤ◌}
use lib.Pow.{pow_mono, pow_pos}
use mir.Syntax.{w32}
use mir.Val.{SFits, to_z, of_z}
use mir.ValLaws.{to_z_pos, to_z-of_z}
use Rattle.entries.specs.Entries.{odd_number}
use Rattle.entries.proofs.SignLaws.{minus_is, difference-mag}
use Rattle.entries.proofs.odd_number.Goals as goal
use Rattle.entries.proofs.odd_number.Goals.{After-pow2, Start}

-- the difference of two counts, each of which fits
module _ (a one : ℕ) (a-fits : SFits w32 (pos a)) (one-fits : SFits w32 (pos one)) (one-pos : 0 < one) where
  counts : to_z w32 a -ℤ to_z w32 one ≡ sub_ℕ a one
  counts = rw (to_z_pos w32 a a-fits.sfits, to_z_pos w32 one one-fits.sfits) (minus_is a one one-pos)

  difference-fits : SFits w32 (to_z w32 a -ℤ to_z w32 one)
  difference-fits = rw counts (record { sfits = difference-mag a one a-fits.sfits one-fits.sfits })

  difference-is : to_z w32 (of_z w32 (to_z w32 a -ℤ to_z w32 one)) ≡ sub_ℕ a one
  difference-is = to_z-of_z w32 _ difference-fits ∙ counts

word_small : (c : Start) → c.args.word < 2 ^ 30
word_small c = omega (arith, pow_mono {i = c.args.b} {j = 30} (omega arith))

pub overflow_mul-result : goal.overflow_mul-result
overflow_mul-result c = omega (arith, word_small c)

pub overflow_add-result : goal.overflow_add-result
overflow_add-result c = omega (arith, word_small c)

pub overflow_cast-result : goal.overflow_cast-result
overflow_cast-result c = record { sfits = omega (arith, word_small c) }

pub overflow_cast-result-2 : goal.overflow_cast-result-2
overflow_cast-result-2 c = rw c.pow2.ensures (record { sfits = omega (arith, pow_mono {i = c.args.b} {j = 30} (omega arith)) })

one-pos : (c : After-pow2) → 0 < c.pow2.result
one-pos c = rw c.pow2.ensures (pow_pos _)

pub overflow_sub-result : goal.overflow_sub-result
overflow_sub-result c = difference-fits _ _ (overflow_cast-result c.before) (overflow_cast-result-2 c) (one-pos c)

pub returns : goal.returns
unfolding odd_number
returns c =
    difference-is _ _ (overflow_cast-result c.before) (overflow_cast-result-2 c) (one-pos c) ∙ ap (sub_ℕ (2 * c.args.word + 1)) c.pow2.ensures
