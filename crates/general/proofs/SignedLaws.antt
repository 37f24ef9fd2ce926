-- How large a sum of signed numbers gets, and a difference of two counts; numbers that add up to -1.
use mathlib.Core.Path.{◌≡◌, refl}
use mathlib.Core.Bool.{Bool, true, false, cond}
use Prim.Native.Nat.{ℕ, zero, suc, ◌+◌, ◌-◌, ◌*◌, ◌≤◌, ◌<◌}
use native.Mathlib.Omega.{arith}
use borrow.Author.Tests.{ltb-true, ltb-false, le-ltb}
use lib.Dec.{ltb}
use lib.IntN.{ℤ, pos, negsuc, sub_ℕ, nat_abs, ◌+ℤ◌, ◌-ℤ◌, +ℤ_comm, +ℤ-neg_ℤ_cancel}
use lib.Signed.{mag}

-- A difference of two numbers is no larger than the larger of them.
mag-cond : (test : Bool) (a b n : ℕ) → a ≤ n → b ≤ n → mag (cond test (negsuc a) (pos b)) ≤ n
mag-cond true a b n h k = h
mag-cond false a b n h k = k

-- A sum is at most one larger than the sizes of both parts together.
pub mag-add : (y z : ℤ) → mag (y +ℤ z) ≤ mag y + mag z + 1
mag-add (pos a) (pos b) = omega arith
mag-add (pos a) (negsuc b) = mag-cond (ltb a (suc b)) _ _ _ (omega arith) (omega arith)
mag-add (negsuc a) (pos b) = mag-cond (ltb b (suc a)) _ _ _ (omega arith) (omega arith)
mag-add (negsuc a) (negsuc b) = omega arith

-- Of two numbers that add up to -1 each is -1 less the other,
pub mirror-is : (e o : ℤ) → e +ℤ o ≡ negsuc 0 → negsuc 0 -ℤ e ≡ o
mirror-is e o sum = rw (← sum, +ℤ_comm e o) (+ℤ-neg_ℤ_cancel o e)

-- and as large.
pub mirror-mag : (e : ℤ) → mag (negsuc 0 -ℤ e) ≡ mag e
mirror-mag (pos zero) = refl
mirror-mag (pos (suc n)) = omega arith
mirror-mag (negsuc n) = rw (le-ltb (suc n) 1 (omega arith)) (omega arith)

-- The difference of two counts: no more than the second if the first is at most twice that, and less if it is not 0 and below twice that;
module _ (a b : ℕ) where
  no_more : (n : ℕ) → b ≤ a + n → a ≤ b + n → (t : Bool) → ltb a b ≡ t → nat_abs (cond t (negsuc (b - suc a)) (pos (a - b))) ≤ n
  no_more n low high true e = omega (arith, ltb-true a b e)
  no_more n low high false e = omega (arith, ltb-false a b e)

  pub difference-small : a ≤ 2 * b → nat_abs (sub_ℕ a b) ≤ b
  difference-small double = no_more b (omega arith) (omega arith) (ltb a b) refl

  pub difference-less : 0 < a → a < 2 * b → nat_abs (sub_ℕ a b) ≤ b - 1
  difference-less some double = no_more (b - 1) (omega arith) (omega arith) (ltb a b) refl

  -- and what is left if the first is the larger.
  pub difference-is : b ≤ a → nat_abs (sub_ℕ a b) ≡ a - b
  difference-is more = rw (le-ltb a b more)
