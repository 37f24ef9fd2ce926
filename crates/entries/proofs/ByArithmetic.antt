-- Document 02, A3: sides, signs and entries come out right by arithmetic, for every T that the fill can meet.
use mathlib.Core.Path.{◌≡◌, refl, ◌∙◌}
use mathlib.Core.Bool.{Bool, true, false, cond}
use Prim.Native.Nat.{ℕ, ◌^◌, ◌<◌}
use native.Mathlib.Omega.{arith}
use lib.IntN.{ℤ}
use Rattle.design.specs.declared.Design.{Design}
use Rattle.design.specs.Cut.{a_of, b_of}
use Rattle.design.specs.Legal.{Legal}
use Rattle.design.proofs.LegalLaws.{limits}
use Rattle.entries.specs.Entries.{same_sign, offset_of, offset_at}
use Rattle.entries.specs.Signs.{sign_of, magnitude_at, sign_at, EntryByArithmetic, SignByArithmetic}
use Rattle.entries.proofs.EntryBounds.{magnitude-small, slopes-reach}
use Rattle.entries.proofs.SignLaws.{top-is, side-times, sign-is, sign_small, by-arithmetic, signed_by}

-- 0 where the test holds, and nowhere else
zero-means : (t : Bool) → ◌≡◌ {A = ℕ} (cond t 0 1) 0 → t ≡ true
zero-means true e = refl
zero-means false e = absurd (omega (arith, e))

zero-where : (rising : Bool) (j : ℤ) → (sign_of rising j ≡ 0 → same_sign rising j ≡ true) × (same_sign rising j ≡ true → sign_of rising j ≡ 0)
unfolding sign_of
zero-where rising j = (zero-means (same_sign rising j), λ same. rw same)

entry-by : (d : Design) → Legal d → (i A B : ℕ) → i < d.m → A < 2 ^ a_of d i → B < 2 ^ b_of d i → EntryByArithmetic d i A B
unfolding magnitude_at sign_at offset_at offset_of
entry-by d legal i A B i_lt A-lt B-lt =
    record {
      bounded = magnitude-small _ _ _ B (slopes-reach d (limits d legal) i A i_lt A-lt) B-lt;
      entry = by-arithmetic _ _ (sign_small _ _) ∙ signed_by _ _ _;
    }

pub sign-by-arithmetic : SignByArithmetic
sign-by-arithmetic =
    record {
      top = top-is;
      size = side-times;
      sign = sign-is;
      sign_zero = zero-where;
      sign_small = sign_small;
      either = by-arithmetic;
      met = entry-by;
    }
