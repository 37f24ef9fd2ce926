-- The floor value is the greatest number that is at most the exact value, for every row, width and P, and it tells whether it is that value.
use mathlib.Core.Path.{◌≡◌, refl, sym}
use mathlib.Core.Bool.{Bool, true, false, cond}
use mathlib.Core.Logic.{◌↔◌}
use Prim.Native.Nat.{ℕ, zero, suc, ◌+◌, ◌^◌, ◌≤◌, ◌<◌}
use native.Mathlib.Nat.{
  le_trans,
  le_of_eq,
  le_antisymm,
  pow-le-pow_left,
  not-le_of_lt,
  lt_of_not-le,
  le-div_iff_mul-le,
  div-lt_iff_lt-mul,
  two-pow-succ,
  add_assoc,
  pow-suc,
  mul-zero,
  zero-add,
}
use native.Mathlib.Decide.{dec_le}
use native.Mathlib.Omega.{arith}
use lib.Dec.{leb}
use borrow.Author.Tests.{leb-true, leb-false, eqb-true, eq-eqb}
use Rattle.values.specs.declared.rows.Row.{Row}
use Rattle.values.specs.Rows.{Lawful}
use Rattle.values.specs.Inputs.{InRange}
use Rattle.values.specs.Exact.{number_side, AtMost, MoreThan, Exactly, Greatest}
use Rattle.values.specs.Floor.{root_from, scaled, floor_value, is_whole}
use Rattle.values.proofs.ExactLaws.{degree, den_pos, value-high, below, number-cancel}

-- r is the k-th root of the limit, rounded down
pub record IsRoot (k limit r : ℕ) : Type 0 where
  pub low : r ^ k ≤ limit
  pub high : limit < (r + 1) ^ k

-- The search keeps root^k ≤ limit < (root + 2^b)^k, of any degree.
module _ (k limit : ℕ) where
  digit : (b root : ℕ) (t : Bool) → leb ((root + 2 ^ b) ^ k) limit ≡ t
      → ((next : ℕ) → next ^ k ≤ limit → limit < (next + 2 ^ b) ^ k → IsRoot k limit (root_from k limit b next))
      → root ^ k ≤ limit → limit < (root + 2 ^ suc b) ^ k
      → IsRoot k limit (root_from k limit b (cond t (root + 2 ^ b) root))
  digit b root true e rec low high = rec (root + 2 ^ b) (leb-true _ _ e) (rw (two-pow-succ, ← add_assoc) at high)
  digit b root false e rec low high = rec root low (leb-false _ _ e)

  pub root-from : (b root : ℕ) → root ^ k ≤ limit → limit < (root + 2 ^ b) ^ k → IsRoot k limit (root_from k limit b root)
  unfolding root_from
  root-from zero root low high = record { low = low; high = high }
  root-from (suc b) root low high = digit b root (leb ((root + 2 ^ b) ^ k) limit) refl (root-from b) low high

  -- The search over b digits finds the root, if b digits hold it, and there is only one.
  pub root-searched : 1 ≤ k → (b : ℕ) → limit < (2 ^ b) ^ k → IsRoot k limit (root_from k limit b 0)
  root-searched pos b high = root-from b 0 start (rw zero-add high)
    where
      start : 0 ^ k ≤ limit
      start = let d = degree k pos in rw (d.1, pow-suc, mul-zero) (omega arith)

  at_most : {r s : ℕ} → IsRoot k limit r → IsRoot k limit s → r ≤ s
  at_most {r} {s} one two = elim (dec_le r s) [
    | yes p ↦ p
    | no n ↦ absurd (not-le_of_lt two.high (le_trans (pow-le-pow_left (omega (arith, lt_of_not-le n)) k) one.low))
  ]

  pub root-found : 1 ≤ k → (b : ℕ) → limit < (2 ^ b) ^ k → {r : ℕ} → IsRoot k limit r → r ≡ root_from k limit b 0
  root-found pos b high one =
      let two = root-searched pos b high in
      le_antisymm (at_most one two) (at_most two one)

module _ (row : Row) (lawful : Lawful row) (w P X : ℕ) (range : InRange w X) where
  -- E(X)^k is below 2^(k·(P+1)), rounded down or not
  pub scaled-high : scaled row w P X < (2 ^ (P + 1)) ^ row.k
  unfolding scaled
  scaled-high = (div-lt_iff_lt-mul (den_pos row lawful w X range)).1 (unfold number_side in value-high row lawful w X range P)

  root_is : IsRoot row.k (scaled row w P X) (floor_value row w P X)
  unfolding floor_value
  root_is = root-searched row.k (scaled row w P X) lawful.k-pos (P + 1) scaled-high

  -- Document 01: "L is the greatest n with .."
  pub floor-greatest : Greatest (AtMost row w P X) (floor_value row w P X)
  unfolding number_side scaled
  floor-greatest =
      record {
        holds = (le-div_iff_mul-le (den_pos row lawful w X range)).0 root_is.low;
        greatest = λ m h. elim (dec_le m (floor_value row w P X)) [
          | yes p ↦ p
          | no n ↦ absurd (not-le_of_lt root_is.high
              (le_trans (pow-le-pow_left (omega (arith, lt_of_not-le n)) row.k) ((le-div_iff_mul-le (den_pos row lawful w X range)).1 h)))
        ];
      }

  pub floor-next : MoreThan row w P X (floor_value row w P X + 1)
  floor-next = lt_of_not-le (λ h. omega (arith, floor-greatest.greatest (floor_value row w P X + 1) h))

  pub floor-high : floor_value row w P X < 2 ^ (P + 1)
  floor-high = below row w X P floor-greatest.holds (value-high row lawful w X range P)

  -- Document 02, A7: "whether E(X) is that whole number". It is told, and the value is n, exactly where n is E(X).
  pub whole_is : (n : ℕ) → ((floor_value row w P X ≡ n) × (is_whole row w P X ≡ true)) ↔ Exactly row w P X n
  unfolding is_whole
  whole_is n = (
    λ told. rw (← told.0) (eqb-true _ _ told.1),
    λ exactly.
        let same : floor_value row w P X ≡ n =
        le_antisymm (number-cancel row lawful w X range (le_trans floor-greatest.holds (le_of_eq (sym exactly))))
        (floor-greatest.greatest n (le_of_eq exactly)) in
        (same, rw same (eq-eqb _ _ exactly)),
  )
