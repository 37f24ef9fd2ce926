-- A frame and its sum byte: with it the bytes sum to 0, and no other byte does that.
use mathlib.Core.Path.{◌≡◌}
use mathlib.Core.Bool.{false}
use mathlib.Core.List.{List, [], ◌∷◌, ◌++◌}
use Prim.Native.Nat.{ℕ, ◌+◌, ◌%◌, ◌<◌}
use native.Mathlib.Omega.{arith}
use borrow.Author.Tests.{eqb-true, eq-eqb, not-false}
use Rattle.general.specs.Lists.{total}
use Rattle.general.proofs.ListLaws.{total-append}
use Rattle.frames.specs.Line.{sum_fails}
use Rattle.encoding.specs.Encode.{sum_byte, with_sum}

-- The sum of a frame with one byte more
total-last : (bs : List ℕ) (b : ℕ) → total (bs ++ (b ∷ [])) ≡ total bs + b
unfolding total
total-last bs b = omega (arith, total-append bs (b ∷ []))

-- The sum byte is a byte.
pub sum-byte-lt : (bs : List ℕ) → sum_byte bs < 256
unfolding sum_byte
sum-byte-lt bs = omega arith

-- A frame with its sum byte has a right sum.
pub sum_back : (bs : List ℕ) → sum_fails (with_sum bs) ≡ false
unfolding sum_fails with_sum sum_byte
sum_back bs =
    let right : total (bs ++ (sum_byte bs ∷ [])) % 256 ≡ 0 = omega (arith, total-last bs (sum_byte bs)) in
    rw (eq-eqb _ _ right)

-- A byte that makes the sum right is the sum byte.
pub sum-again : (bs : List ℕ) (b : ℕ) → b < 256 → sum_fails (bs ++ (b ∷ [])) ≡ false → b ≡ sum_byte bs
unfolding sum_fails sum_byte
sum-again bs b h e =
    let right : total (bs ++ (b ∷ [])) % 256 ≡ 0 = eqb-true _ _ (not-false _ e) in
    omega (arith, total-last bs b)
