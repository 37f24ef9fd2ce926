-- Hi and Lo bound the slope of the exact value on a segment. The slope at X is E(X) / (k·X), and it falls as X grows, for both
-- signs. In units of 2^-18 table units a step, h is at least the slope at X when k·h·X is at least 2^18·E(X), and 4·Hi is such an h.
use mathlib.Core.Path.{◌≡◌, refl, sym, ap, ◌∙◌}
use mathlib.Core.Bool.{Bool, true, false, cond}
use Prim.Native.Nat.{ℕ, suc, ◌+◌, ◌-◌, ◌*◌, ◌^◌, ◌≤◌, ◌<◌}
use native.Mathlib.Nat.{
  le_trans,
  le_refl,
  le_of_lt,
  mul-le-mul,
  mul-le-mul_left,
  mul-le-mul_right,
  le_of_mul-le-mul_right,
  pow-le-pow_left,
  lt-mul-div-succ,
  mul-div-le,
  one-le-mul,
  le_of_eq,
  add-sub_of_le,
  le_of_mul-le-mul_left,
}
use native.Mathlib.Omega.{arith}
use lib.Pow.{pow-add, pow_pos}
use Rattle.values.specs.declared.rows.Row.{Row}
use Rattle.values.specs.Rows.{Lawful}
use Rattle.values.specs.Inputs.{InRange}
use Rattle.values.specs.Exact.{num, den, number_side, value_side, AtMost, AtLeast}
use Rattle.values.specs.Floor.{floor_value, is_whole}
use Rattle.values.specs.Slopes.{segment_start, segment_end, ceiling_value, hi, lo}
use Rattle.values.proofs.Powers.{pow-mul, power-grows}
use Rattle.values.proofs.ExactLaws.{degree, number-mono, number-cancel, at-most-finer, at-least-finer}
use Rattle.values.proofs.FloorLaws.{floor-greatest, floor-next, whole_is}

-- h is at least, at most the slope at X
abbrev pub Steeper : Row → ℕ → ℕ → ℕ → ℕ → Type 0
Steeper row w P X h = AtLeast row w (P + 18) X (row.k * h * X)

abbrev pub Flatter : Row → ℕ → ℕ → ℕ → ℕ → Type 0
Flatter row w P X h = AtMost row w (P + 18) X (row.k * h * X)

-- The slope falls from u to v ≥ u. Where num grows with X, u^k·v ≤ v^k·u carries the bound over, and where den does, monotony.
-- F is (2^k)^(P+18), d is 2^w, m is k·h.
module _ (F c d j m u v : ℕ) (order : u ≤ v) (u-pos : 0 < u) where
  rising-from : F * (c * u) ≤ (m * u) ^ suc j * d → F * (c * v) ≤ (m * v) ^ suc j * d
  rising-from h =
      le_of_mul-le-mul_right {k = u}
      (rw (pow-mul m v (suc j))
      (omega (
        arith,
        mul-le-mul_right v (rw (pow-mul m u (suc j)) at h),
        mul-le-mul_left (m ^ suc j * d) (power-grows u v j order),
      )))
      u-pos

  rising-to : (m * v) ^ suc j * d ≤ F * (c * v) → (m * u) ^ suc j * d ≤ F * (c * u)
  rising-to h =
      le_of_mul-le-mul_right {k = v}
      (rw (pow-mul m u (suc j))
      (omega (
        arith,
        mul-le-mul_right u (rw (pow-mul m v (suc j)) at h),
        mul-le-mul_left (m ^ suc j * d) (power-grows u v j order),
      )))
      (le_trans u-pos order)

  falling : (m * u) ^ suc j * (c * u) ≤ (m * v) ^ suc j * (c * v)
  falling = mul-le-mul (pow-le-pow_left (mul-le-mul_left m order) (suc j)) (mul-le-mul_left c order)

  from_start : (rising : Bool) → F * cond rising (c * u) d ≤ (m * u) ^ suc j * cond rising d (c * u)
      → F * cond rising (c * v) d ≤ (m * v) ^ suc j * cond rising d (c * v)
  from_start true h = rising-from h
  from_start false h = le_trans h falling

  from_end : (rising : Bool) → (m * v) ^ suc j * cond rising d (c * v) ≤ F * cond rising (c * v) d
      → (m * u) ^ suc j * cond rising d (c * u) ≤ F * cond rising (c * u) d
  from_end true h = rising-to h
  from_end false h = le_trans falling h

pub range-pos : {w X : ℕ} → InRange w X → 0 < X
range-pos {w} range = le_trans (pow_pos w) range.low

module _ (row : Row) (lawful : Lawful row) (w P : ℕ) where
  pub steeper-later : (h u v : ℕ) → u ≤ v → 0 < u → Steeper row w P u h → Steeper row w P v h
  unfolding number_side value_side num den
  steeper-later h u v order u-pos =
      let d = degree row.k lawful.k-pos in
      rw d.1 (from_start _ row.c (2 ^ w) d.0 _ u v order u-pos row.rising)

  pub flatter-earlier : (h u v : ℕ) → u ≤ v → 0 < u → Flatter row w P v h → Flatter row w P u h
  unfolding number_side value_side num den
  flatter-earlier h u v order u-pos =
      let d = degree row.k lawful.k-pos in
      rw d.1 (from_end _ row.c (2 ^ w) d.0 _ u v order u-pos row.rising)

  -- E(X) is at most its value rounded up: equal to it where it is whole, else below it.
  pub ceiling-high : (X : ℕ) → InRange w X → AtLeast row w P X (ceiling_value row w P X)
  unfolding ceiling_value
  ceiling-high X range = go (is_whole row w P X) refl
    where
      go : (whole : Bool) → is_whole row w P X ≡ whole
          → AtLeast row w P X (cond whole (floor_value row w P X) (floor_value row w P X + 1))
      go true e = le_of_eq (sym ((whole_is row lawful w P X range _).0 (refl, e)))
      go false e = le_of_lt (floor-next row lawful w P X range)

  pub hi-at-start : (s : ℕ) → InRange w s → Steeper row w P s (4 * hi row w P s)
  unfolding hi
  hi-at-start s range =
      le_trans (at-least-finer row w s P 18 (ceiling_value row w P s) (ceiling-high s range))
      (number-mono row w s
      (omega (arith, lt-mul-div-succ (ceiling_value row w P s * 65536) (one-le-mul lawful.k-pos (range-pos range)))))

  pub lo-at-end : (e : ℕ) → InRange w e → Flatter row w P e (4 * lo row w P e)
  unfolding lo
  lo-at-end e range =
      le_trans (number-mono row w e (omega (arith, mul-div-le (floor_value row w P e * 65536) (row.k * e))))
      (at-most-finer row w e P 18 (floor_value row w P e) (floor-greatest row lawful w P e range).holds)

-- X lies on the segment of A
pub record OnSegment (w a A X : ℕ) : Type 0 where
  pub from : segment_start w a A ≤ X
  pub to : X ≤ segment_end w a A

module _ (w a A : ℕ) (a-le : a ≤ w) (A-lt : A < 2 ^ a) where
  pub segment-room : suc A * 2 ^ (w - a) ≤ 2 ^ w
  segment-room =
      le_trans (mul-le-mul_right (2 ^ (w - a)) A-lt)
      (le_of_eq (sym (pow-add 2 a (w - a)) ∙ ap (λ (n : ℕ). 2 ^ n) (add-sub_of_le a-le)))

  pub start-on : OnSegment w a A (segment_start w a A)
  unfolding segment_end segment_start
  start-on = record { from = le_refl _; to = omega (arith, pow_pos (w - a)) }

  pub end_on : OnSegment w a A (segment_end w a A)
  end_on = record { from = start-on.to; to = le_refl _ }

  pub on-range : (X : ℕ) → OnSegment w a A X → InRange w X
  unfolding segment_end segment_start
  on-range X on =
      record {
        low = omega (arith, on.from);
        high = omega (arith, on.to, segment-room, pow_pos (w - a), pow_pos w);
      }

  module _ (row : Row) (lawful : Lawful row) (P X : ℕ) (on : OnSegment w a A X) where
    pub hi-steeper : Steeper row w P X (4 * hi row w P (segment_start w a A))
    hi-steeper =
        let range = on-range (segment_start w a A) start-on in
        steeper-later row lawful w P _ _ X on.from (range-pos range) (hi-at-start row lawful w P _ range)

    pub lo-flatter : Flatter row w P X (4 * lo row w P (segment_end w a A))
    lo-flatter =
        flatter-earlier row lawful w P _ X _ on.to (range-pos (on-range X on))
        (lo-at-end row lawful w P _ (on-range (segment_end w a A) end_on))

    -- Lo at any X of the segment, its end among them, is at most Hi.
    pub lo-le-hi : lo row w P X ≤ hi row w P (segment_start w a A)
    lo-le-hi =
        let range = on-range X on in
        omega (
          arith,
          le_of_mul-le-mul_left
              (le_of_mul-le-mul_right
              (number-cancel row lawful w X range (le_trans (lo-at-end row lawful w P X range) hi-steeper)) (range-pos range))
              lawful.k-pos,
        )
