-- Which values are whole: where the function falls, X divides a power of 2, so that it is one; and no square is twice a power of 4.
use mathlib.Core.Path.{◌≡◌, refl, sym, ap, ◌∙◌}
use mathlib.Core.Bool.{Bool, true, false}
use mathlib.Core.Logic.{◌⊎◌, inl, inr, ⊎_elim}
use mathlib.Core.List.{[], ◌∷◌, map}
use Prim.Native.Nat.{ℕ, zero, suc, ◌+◌, ◌*◌, ◌^◌}
use native.Mathlib.Nat.{pow-suc, mul-zero, one-mul, mul_assoc, mul_comm, mul_right_comm, le_antisymm}
use native.Mathlib.Decide.{dec_lt}
use native.Mathlib.Omega.{arith}
use lib.Pow.{pow-add, pow_mono, pow_pos}
use Rattle.values.specs.declared.rows.Row.{Row}
use Rattle.values.specs.Rows.{rows, row_of, Lawful}
use Rattle.values.specs.Exact.{num, den, number_side, value_side, Exactly}
use Rattle.values.specs.Floor.{floor_value, is_whole}
use Rattle.values.specs.Inputs.{InRange}
use Rattle.values.specs.Document.{WholeSaid}
use Rattle.values.specs.WholeAt.{WholeAt}
use Rattle.values.proofs.NewtonLaws.{square}
use Rattle.values.proofs.Powers.{pow-pow, pow-swap}
use Rattle.values.proofs.PartLaws.{scaled-eq}
use Rattle.values.proofs.FloorLaws.{whole_is}
use Rattle.values.proofs.Document.{document}

-- Every number is twice another, or one more than that.
halved : (n : ℕ) → (h : ℕ) × ((n ≡ 2 * h) ⊎ (n ≡ 2 * h + 1))
halved zero = (0, inl refl)
halved (suc n) =
    let half = halved n in
    ⊎_elim (λ (even : n ≡ 2 * half.0). (half.0, inr (omega (arith, even)))) (λ (odd : n ≡ 2 * half.0 + 1). (half.0 + 1, inl (omega (arith, odd))))
    half.1

two-pow : (n : ℕ) → 2 ^ suc n ≡ 2 * 2 ^ n
two-pow n = pow-suc 2 n ∙ mul_comm (2 ^ n) 2

-- What divides a power of 2 is one.
one_of : (n X : ℕ) → n * X ≡ 1 → X ≡ 1
one_of n zero e = absurd (omega (arith, rw (mul-zero n) at e))
one_of zero (suc X) e = absurd (omega (arith, e))
one_of (suc n) (suc zero) e = refl
one_of (suc n) (suc (suc X)) e = absurd (omega (arith, e))

odd-product : (a b c : ℕ) → (2 * a + 1) * (2 * b + 1) ≡ 2 * c → ⊥
odd-product a b c e = omega (arith, e)

twice : (a b c : ℕ) → a * (2 * b) ≡ 2 * c → a * b ≡ c
twice a b c e = omega (arith, e)

-- with half the power of 2 behind it
module _ (e : ℕ) (halves : (n X : ℕ) → n * X ≡ 2 ^ e → (f : ℕ) × (X ≡ 2 ^ f)) (n X : ℕ) (is : n * X ≡ 2 * 2 ^ e) where
  of-even : (h : ℕ) → X ≡ 2 * h → (f : ℕ) × (X ≡ 2 ^ f)
  of-even h even =
      let half = halves n h (twice n h (2 ^ e) (rw even at is)) in
      (suc half.0, even ∙ ap (λ (m : ℕ). 2 * m) half.1 ∙ sym (two-pow half.0))

  of-odd : (h : ℕ) → X ≡ 2 * h + 1 → (f : ℕ) × (X ≡ 2 ^ f)
  of-odd h odd =
      let m = halved n in
      ⊎_elim
      (λ (even : n ≡ 2 * m.0). halves m.0 X (rw mul_comm (twice X m.0 (2 ^ e) (rw (even, mul_comm (2 * m.0) X) at is))))
      (λ (also : n ≡ 2 * m.0 + 1). absurd (odd-product m.0 h (2 ^ e) (rw (also, odd) at is)))
      m.1

divides : (e n X : ℕ) → n * X ≡ 2 ^ e → (f : ℕ) × (X ≡ 2 ^ f)
divides zero n X is = (0, one_of n X is)
divides (suc e) n X is =
    let x = halved X in
    let doubled : n * X ≡ 2 * 2 ^ e = is ∙ two-pow e in
    ⊎_elim (λ (even : X ≡ 2 * x.0). of-even e (divides e) n X doubled x.0 even)
    (λ (odd : X ≡ 2 * x.0 + 1). of-odd e (divides e) n X doubled x.0 odd)
    x.1

-- A power of 2 in X's range is the first X.
first-X : (w X f : ℕ) → InRange w X → X ≡ 2 ^ f → X ≡ 2 ^ w
first-X w X f range is = elim (dec_lt w f) [
  | yes more ↦ absurd (omega (arith, range.high, is, pow_mono {i = suc w} {j = f} more, two-pow w))
  | no not ↦ le_antisymm (omega (arith, is, pow_mono {i = f} {j = w} (omega (arith, not)))) range.low
]

-- No square is twice a power of 4, nor half of one.
four-pow : (n : ℕ) → 4 ^ suc n ≡ 4 * 4 ^ n
four-pow n = pow-suc 4 n ∙ mul_comm (4 ^ n) 4

even-square : (h c : ℕ) → 2 * h * (2 * h) ≡ 2 * c → 2 * (h * h) ≡ c
even-square h c e = omega (arith, e)

half-root : (P n : ℕ) → n * n ≡ 2 * 4 ^ P → (h : ℕ) × (2 * (h * h) ≡ 4 ^ P)
half-root P n e =
    let half = halved n in
    ⊎_elim (λ (even : n ≡ 2 * half.0). (half.0, even-square half.0 (4 ^ P) (rw even at e)))
    (λ (odd : n ≡ 2 * half.0 + 1). absurd (odd-product half.0 half.0 (4 ^ P) (rw odd at e)))
    half.1

no-double : (P n : ℕ) → n * n ≡ 2 * 4 ^ P → ⊥
no-double zero n e = let half = half-root zero n e in omega (arith, half.1)
no-double (suc P) n e = let half = half-root (suc P) n e in no-double P half.0 (omega (arith, half.1, four-pow P))

no-half : (P n : ℕ) → 2 * (n * n) ≡ 4 ^ P → ⊥
no-half zero n e = omega (arith, e)
no-half (suc P) n e = no-double P n (omega (arith, e, four-pow P))

module _ (w P : ℕ) where
  -- Where the function falls, L^k·c·X is a power of 2.
  product_is : (row : Row) (X n : ℕ) → row.rising ≡ false → Exactly row w P X n → n ^ row.k * row.c * X ≡ 2 ^ (row.k * P + w)
  unfolding number_side value_side num den
  product_is row X n falls e =
      mul_assoc (n ^ row.k) row.c X ∙ (rw falls at e)
      ∙ ap (λ (m : ℕ). m * 2 ^ w) (pow-pow 2 row.k P) ∙ sym (pow-add 2 (row.k * P) w)

  elsewhere : (row : Row) → Lawful row → row.rising ≡ false → (X : ℕ) → InRange w X → is_whole row w P X ≡ true → X ≡ 2 ^ w
  elsewhere row lawful falls X range e =
      let exactly = (whole_is row lawful w P X range (floor_value row w P X)).0 (refl, e) in
      let power = divides (row.k * P + w) (floor_value row w P X ^ row.k * row.c) X (product_is row X _ falls exactly) in
      first-X w X power.0 range power.1

  -- At x = 0 the value's power is c or 1 / c: it is whole for c = 1, with 2^P for L, and not for c = 2.
  zero-range : InRange w (2 ^ w)
  zero-range = record { low = omega arith; high = omega (arith, pow_pos w) }

  root-of-four : (2 ^ P) ^ 2 ≡ 4 ^ P
  root-of-four = pow-swap 2 P 2

  zeros : (n : ℕ) (kind : ℕ) → WholeSaid kind w P (2 ^ w) n
  zeros n kind = document.whole kind w P (2 ^ w) n zero-range

  not_so : (b : Bool) → (b ≡ true → ⊥) → b ≡ false
  not_so true never = absurd (never refl)
  not_so false never = refl

  cancelled : (a b : ℕ) → a * 2 ^ w ≡ b * 2 ^ w → a ≡ b
  cancelled a b = (scaled-eq {a = a} {b = b} (pow_pos w)).0

  never-two : (n : ℕ) → n ^ 2 * 2 ^ w ≡ 2 * 2 ^ w * 4 ^ P → ⊥
  never-two n e = no-double P n (sym (square n) ∙ cancelled (n ^ 2) (2 * 4 ^ P) (e ∙ mul_right_comm 2 (2 ^ w) (4 ^ P)))

  never-four : (n : ℕ) → n ^ 2 * (2 * 2 ^ w) ≡ 4 ^ P * 2 ^ w → ⊥
  never-four n e = no-half P n (rw (← square n) (cancelled (2 * n ^ 2) (4 ^ P) (omega (arith, e))))

  at_zero : map (λ kind. is_whole (row_of kind) w P (2 ^ w)) (0 ∷ 1 ∷ 2 ∷ 3 ∷ 4 ∷ []) ≡ true ∷ true ∷ false ∷ true ∷ false ∷ []
  unfolding rows row_of
  at_zero =
      let of-0 = (((zeros (2 ^ P) 0).reciprocal refl).1 (sym (pow-add 2 P w))).1 in
      let of-1 = (((zeros (2 ^ P) 1).root (inl refl)).1 (rw (root-of-four, one-mul (2 ^ w)) (mul_comm (4 ^ P) (2 ^ w)))).1 in
      let of-2 = not_so (is_whole (row_of 2) w P (2 ^ w)) (λ e. never-two _ (((zeros _ 2).root (inr refl)).0 (refl, e))) in
      let of-3 = (((zeros (2 ^ P) 3).reciprocal-root (inl refl)).1 (rw (root-of-four, one-mul (2 ^ w)) refl)).1 in
      let of-4 = not_so (is_whole (row_of 4) w P (2 ^ w)) (λ e. never-four _ (((zeros _ 4).reciprocal-root (inr refl)).0 (refl, e))) in
      rw (of-0, of-1, of-2, of-3, of-4)

pub whole-at : (w P : ℕ) → WholeAt w P
whole-at w P = record { at_zero = at_zero w P; elsewhere = elsewhere w P }
