-- What the tests of a word ask: the word of a sum in range has at most q + 2 bits, and there is room for halves of it.
use mathlib.Core.Path.{◌≡◌}
use mathlib.Core.Bool.{false}
use Prim.Native.Nat.{ℕ, ◌+◌, ◌^◌, ◌<◌}
use native.Mathlib.Omega.{arith}
use lib.IntN.{ℤ}
use lib.Pow.{shr_lt}
use Rattle.values.specs.Inputs.{FloorInput}
use Rattle.design.specs.declared.Design.{Design}
use Rattle.design.specs.Cut.{row, fraction_bits}
use Rattle.design.proofs.LegalLaws.{Limits, lawful}
use Rattle.tables.specs.Sum.{sum_outside, word_of}
use Rattle.tables.proofs.SumLaws.{in-range}

module _ (d : Design) (l : Limits d) where
  pub exact-at : (x : ℕ) → x < 2 ^ d.w → FloorInput (row d) d.w (d.q + 3) (2 ^ d.w + x)
  exact-at x h =
      record { lawful = lawful d l; room = l.widths.halves; range = record { low = omega arith; high = omega arith } }

pub word_small : (d : Design) (Y : ℤ) → sum_outside d Y ≡ false → word_of d Y < 2 ^ (d.q + 2)
unfolding word_of
word_small d Y e =
    let places : fraction_bits d + 2 ≡ d.q + 2 + d.g = omega arith in
    shr_lt (d.q + 2) d.g (rw places at (in-range d Y e).1)
