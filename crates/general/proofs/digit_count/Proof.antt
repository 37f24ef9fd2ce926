-- `general::digit_count` meets its contract: leading zeros and digits make 64.
use mathlib.Core.Path.{◌≡◌}
use Prim.Native.Nat.{ℕ, ◌-◌, ◌^◌, ◌<◌}
use native.Mathlib.Omega.{arith}
use lib.Count.{count_leading_zeros, leading_le, leading_length}
use Rattle.general.specs.Digits.{Digits}
use Rattle.general.proofs.digit_count.Statement.{statement}
use Rattle.general.proofs.digit_count.Tie as tie

counted : (n : ℕ) → n < 2 ^ 64 → Digits n (64 - count_leading_zeros 64 n)
counted n small =
    let length = leading_length 64 n small in
    let count : 64 - count_leading_zeros 64 n ≡ length.0 = omega (arith, length.1) in
    rw count (record { enough = length.2; fewest = length.3 })

returns : tie.Need-returns
returns c = counted _ (search)

sub-result : tie.Need-overflow_sub-result
sub-result c = leading_le 64 _

pub digit_count_spec : {M : Type 1} → statement M
digit_count_spec = tie.close (tie.spec sub-result returns)
