-- Document 02, A3: "Work the entry out from T and a sign of 0 or 1 by arithmetic". What the entry is stays with Entries.antt.
use Rattle.std.specs.Prelude.{◌≡◌, Bool, true, cond, ℕ, zero, suc, ◌+◌, ◌-◌, ◌/◌, ◌^◌, ◌≤◌, ◌<◌, ℤ, pos, negsuc, nat_abs, ◌-ℤ◌, ◌*ℤ◌}
use Rattle.std.specs.Int.Bits.{bit_xor}
use Rattle.std.specs.Int.Signed.{non_neg}
use Rattle.design.specs.declared.Design.{Design}
use Rattle.design.specs.Cut.{a_of, b_of, row, position}
use Rattle.design.specs.Legal.{Legal}
use Rattle.entries.specs.Inputs.{offset_bound}
use Rattle.entries.specs.Entries.{hi_at, lo_at, odd_number, magnitude, same_sign, offset_at}

-- The side of 0 on which j lies: 1 above, 0 below; j is never 0.
unfoldable pub side_of : ℤ → ℕ
side_of j = cond (non_neg j) 1 0

-- The sign: 0 where j has the function's sign, 1 where it has the other
unfoldable pub sign_of : Bool → ℤ → ℕ
sign_of rising j = cond (same_sign rising j) 0 1

-- "T for sign 0 and -1 - T for sign 1"
unfoldable pub entry_by : ℕ → ℕ → ℤ
entry_by zero T = pos T
entry_by (suc _) T = negsuc T

-- (1 - 2·s)·T - s
unfoldable pub by_arithmetic : ℕ → ℕ → ℤ
by_arithmetic s T = (pos 1 -ℤ pos 2 *ℤ pos s) *ℤ pos T -ℤ pos s

-- T and s of A_i = A and B_i = B in table i
unfoldable pub magnitude_at : Design → ℕ → ℕ → ℕ → ℕ
magnitude_at d i A B = magnitude (hi_at d i A + lo_at d i A) (position d i) (odd_number (b_of d i) B)

unfoldable pub sign_at : Design → ℕ → ℕ → ℕ
sign_at d i B = sign_of (row d).rising (odd_number (b_of d i) B)

-- T is within the bound, and (1 - 2·s)·T - s is document 01's entry.
pub record EntryByArithmetic (d : Design) (i A B : ℕ) : Type 0 where
  pub bounded : magnitude_at d i A B ≤ offset_bound
  pub entry : by_arithmetic (sign_at d i B) (magnitude_at d i A B) ≡ offset_at d i A B

-- "It is shown to be T for sign 0 and -1 - T for sign 1, for every T that the fill can meet."
pub record SignByArithmetic : Type 0 where
  -- B's top bit tells on which side of 0 its j lies,
  pub top : (b B : ℕ) → 1 ≤ b → B < 2 ^ b → B / 2 ^ (b - 1) ≡ side_of (odd_number b B)
  -- |j| is j times twice that bit less 1,
  pub size : (j : ℤ) → (pos 2 *ℤ pos (side_of j) -ℤ pos 1) *ℤ j ≡ pos (nat_abs j)
  -- and the sign tells whether that bit and the function's sign, 1 for +, differ: it is 0 exactly where j has the function's sign, and else 1.
  pub sign : (rising : Bool) (j : ℤ) → bit_xor (side_of j) (cond rising 1 0) ≡ sign_of rising j
  pub sign_zero : (rising : Bool) (j : ℤ) → (sign_of rising j ≡ 0 → same_sign rising j ≡ true) × (same_sign rising j ≡ true → sign_of rising j ≡ 0)
  pub sign_small : (rising : Bool) (j : ℤ) → sign_of rising j < 2
  -- For sign 0 and for sign 1 the arithmetic comes to the entry,
  pub either : (s T : ℕ) → s < 2 → by_arithmetic s T ≡ entry_by s T
  -- and so it does for every T that the fill can meet, of a legal design, admitted or not.
  pub met : (d : Design) → Legal d → (i A B : ℕ) → i < d.m → A < 2 ^ a_of d i → B < 2 ^ b_of d i → EntryByArithmetic d i A B
