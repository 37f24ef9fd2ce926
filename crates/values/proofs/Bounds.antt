-- How large numbers get where there is room for them, so that nothing wraps.
use mathlib.Core.Path.{◌≡◌, refl, ◌∙◌}
use mathlib.Core.Bool.{Bool, true, false, cond}
use Prim.Native.Nat.{ℕ, zero, suc, ◌+◌, ◌-◌, ◌*◌, ◌/◌, ◌^◌, ◌≤◌, ◌<◌}
use native.Mathlib.Nat.{mul-le-mul, mul-le-mul_left, mul-le-mul_right, mul-lt-mul_of_pos_left, mul-lt-mul_of_pos_right, le_trans}
use native.Mathlib.Nat.{one-mul, mul_assoc, pow-zero, pow-suc, le_of_mul-le-mul_right, le_of_eq, le_of_lt, lt_of_lt_of_le, lt_of_le_of_lt, one-le-mul, div-le_self, mul-div-le, pow-le-pow_left}
use native.Mathlib.Omega.{arith}
use lib.Pow.{pow-add, pow-lt, pow_mono, pow_pos}
use Rattle.values.specs.declared.rows.Row.{Row}
use Rattle.values.specs.Room.{Room, highest_degree, finest_unit, word_bound, input_bound, floor_bound, slope_bound, product_bound}
use Rattle.values.specs.Rows.{Lawful}
use Rattle.values.specs.Inputs.{InRange, FloorInput, SegmentInput, SlopeInput}
use Rattle.values.specs.Exact.{num, den, number_side, value_side}
use Rattle.values.specs.Parts.{divisor_part, number_part, value_part}
use Rattle.values.specs.Floor.{floor_value, is_whole}
use Rattle.values.specs.Slopes.{segment_start, segment_end, ceiling_value, hi, lo, spread}
use Rattle.values.proofs.Powers.{pow-pow, pow-swap}
use Rattle.values.proofs.ExactLaws.{argument-high}
use Rattle.values.proofs.FloorLaws.{floor-greatest, floor-high}
use Rattle.values.proofs.SlopeLaws.{OnSegment, on-range, start-on, end_on, segment-room, lo-le-hi, range-pos}

-- Room for s fraction bits is room for fewer.
pub coarser : {row : Row} {w s : ℕ} (t : ℕ) → t ≤ s → Room row w s → Room row w t
coarser {row} {s} t h room =
    let fewer : row.k * (t + 1) ≤ row.k * (s + 1) = mul-le-mul_left row.k (omega arith) in
    record {
      degree = room.degree;
      w-small = room.w-small;
      s-small = omega arith;
      power = le_trans fewer room.power;
      falls = λ e. omega (arith, room.falls e);
    }

-- So it is of narrower words.
pub narrower : {row : Row} {w s : ℕ} (v : ℕ) → v ≤ w → Room row w s → Room row v s
narrower v h room =
    record {
      degree = room.degree;
      w-small = omega arith;
      s-small = room.s-small;
      power = room.power;
      falls = λ e. omega (arith, room.falls e);
    }

module _ {row : Row} {w s : ℕ} (room : Room row w s) where
  pub words-few : 2 ^ w ≤ word_bound
  words-few = pow_mono room.w-small

pub coarser-input : {row : Row} {w s X : ℕ} (t : ℕ) → t ≤ s → FloorInput row w s X → FloorInput row w t X
coarser-input t h fit = record { lawful = fit.lawful; room = coarser t h fit.room; range = fit.range }

-- The parts. u is c·X, below 2^(k+w), e is k·s, and m is a number's power, at most 2^t.
module _ (w k e u : ℕ) (u-high : u < 2 ^ k * 2 ^ w) where
  value-fits : (rising : Bool) → k + w < 64 → e + k < 64 → (rising ≡ false → e + w < 64)
      → cond rising (u * 2 ^ (e - w)) (2 ^ (e + w)) < 2 ^ 64
  value-fits true wide power falls =
      lt_of_lt_of_le (mul-lt-mul_of_pos_right u-high (pow_pos (e - w)))
      (rw (← pow-add 2 k w, ← pow-add 2 (k + w) (e - w)) (pow_mono {j = 64} (omega arith)))
  value-fits false wide power falls = pow-lt {j = 64} (falls refl)

  number_fits : (rising : Bool) (m t : ℕ) → m ≤ 2 ^ t → t + (w - e) < 64 → (rising ≡ false → t + (k + w) ≤ 64)
      → m * cond rising (2 ^ (w - e)) u < 2 ^ 64
  number_fits true m t high power falls =
      lt_of_le_of_lt (mul-le-mul_right (2 ^ (w - e)) high) (rw (← pow-add 2 t (w - e)) (pow-lt {j = 64} power))
  number_fits false m t high power falls =
      lt_of_le_of_lt (mul-le-mul_right u high)
      (lt_of_lt_of_le (mul-lt-mul_of_pos_left u-high (pow_pos t))
      (rw (← pow-add 2 k w, ← pow-add 2 t (k + w)) (pow_mono {j = 64} (falls refl))))

module _ (row : Row) (w s X : ℕ) (fit : FloorInput row w s X) where
  pub argument-small : row.c * X < 2 ^ 64
  argument-small =
      omega (
        arith,
        argument-high row fit.lawful w X fit.range,
        mul-le-mul (pow_mono {j = highest_degree} fit.room.degree) (words-few fit.room),
      )

  pub value-part-fits : value_part row w s X < 2 ^ 64
  unfolding value_part
  value-part-fits =
      let room = fit.room in
      value-fits w row.k (row.k * s) (row.c * X) (argument-high row fit.lawful w X fit.range) row.rising
      (omega arith) (omega (arith, room.power)) (λ e. omega (arith, room.falls e, fit.lawful.k-pos))

  pub X-small : X < input_bound
  X-small = omega (arith, fit.range.high, words-few fit.room)

  pub step_small : row.k * X ≤ highest_degree * input_bound
  step_small = mul-le-mul fit.room.degree (le_of_lt X-small)

  pub step-pos : 0 < row.k * X
  step-pos = one-le-mul fit.lawful.k-pos (range-pos fit.range)

  pub floor-small : floor_value row w s X < floor_bound
  floor-small =
      lt_of_lt_of_le (floor-high row fit.lawful w s X fit.range) (pow_mono {j = finest_unit + 1} (omega (arith, fit.room.s-small)))

-- Numbers of s + 2 bits
module _ (row : Row) (w s X : ℕ) (fit : FloorInput row w (s + 2) X) (n : ℕ) (small : n ≤ 2 ^ (s + 2)) where
  power-high : n ^ row.k ≤ 2 ^ (row.k * (s + 2))
  power-high = le_trans (pow-le-pow_left small row.k) (le_of_eq (pow-swap 2 (s + 2) row.k ∙ pow-pow 2 row.k (s + 2)))

  pub number-part-fits : number_part row w s X n < 2 ^ 64
  unfolding number_part divisor_part
  number-part-fits =
      let room = fit.room in
      number_fits w row.k (row.k * s) (row.c * X) (argument-high row fit.lawful w X fit.range) row.rising (n ^ row.k)
      (row.k * (s + 2)) power-high (omega (arith, room.power)) (λ e. omega (arith, room.falls e))

-- A quotient and a little more fits where its dividend and that do.
pub quotient_fits : (n d more : ℕ) → n + more < 2 ^ 64 → n / d + more < 2 ^ 64
quotient_fits n d more h = omega (arith, div-le_self n d)

-- Rounding up adds at most one.
pub ceiling-low : (row : Row) (w P X : ℕ) → ceiling_value row w P X ≤ floor_value row w P X + 1
unfolding ceiling_value
ceiling-low row w P X = go (is_whole row w P X)
  where
    go : (whole : Bool) → cond whole (floor_value row w P X) (floor_value row w P X + 1) ≤ floor_value row w P X + 1
    go true = omega arith
    go false = omega arith

-- Hi of a value that is rounded up
hi_small : (n d : ℕ) → n ≤ floor_bound → n * 65536 / d + 1 ≤ slope_bound
hi_small n d h = omega (arith, div-le_self (n * 65536) d)

-- A slope is L(X) / (k·X), which is at most 2^P / 2^w: of degree 1 by the inequality that L meets, of any other since L is below 2^(P+1).
-- d is 2^w, and u is 2^P.
flat-first : (t : Bool) (L c X d u : ℕ) → c ≡ 1 → d ≤ X → L * cond t d (c * X) ≤ u * cond t (c * X) d → L * d ≤ X * u
flat-first true L c X d u c-is low h = omega (arith, rw (c-is, one-mul X) at h)
flat-first false L c X d u c-is low h = omega (arith, rw (c-is, one-mul X) at h, mul-le-mul_left L low, mul-le-mul_left u low)

flat-other : (k L X d u : ℕ) → 2 ≤ k → L ≤ 2 * u → d ≤ X → L * d ≤ k * X * u
flat-other k L X d u k-low high low =
    omega (arith, mul-le-mul_right d high, mul-le-mul_left u low, mul-le-mul_right (X * u) k-low, mul_assoc k X u)

flat : (k c : ℕ) (t : Bool) (L X d P : ℕ) → 1 ≤ k → 1 ≤ c → 2 * c ≤ 2 ^ k → d ≤ X → L < 2 ^ (P + 1)
    → L ^ k * cond t d (c * X) ≤ (2 ^ k) ^ P * cond t (c * X) d → L * d ≤ k * X * 2 ^ P
flat zero c t L X d P k-pos c_pos domain low high holds = absurd (omega arith)
flat (suc zero) c t L X d P k-pos c_pos domain low high holds =
    let alone : L ^ 1 ≡ L = rw (pow-suc, pow-zero) (one-mul L) in
    rw (one-mul X) (flat-first t L c X d (2 ^ P) (omega arith) low (rw alone at holds))
flat (suc (suc n)) c t L X d P k-pos c_pos domain low high holds =
    flat-other (suc (suc n)) L X d (2 ^ P) (omega arith) (omega (arith, pow-add 2 P 1)) low

floor-flat : (row : Row) → Lawful row → (w P X : ℕ) → InRange w X → floor_value row w P X * 2 ^ w ≤ row.k * X * 2 ^ P
unfolding number_side value_side num den
floor-flat row lawful w P X range =
    flat row.k row.c row.rising _ X (2 ^ w) P lawful.k-pos lawful.c_pos lawful.domain range.low
    (floor-high row lawful w P X range) (floor-greatest row lawful w P X range).holds

-- Hi without its last one; n is k·X, and c is L rounded up
slope-flat : (c L n d u : ℕ) → c ≤ L + 1 → 0 < n → d ≤ n → L * d ≤ n * u → c * 65536 / n * d ≤ (u + 1) * 65536
slope-flat c L n d u up n_pos low high =
    let q = c * 65536 / n in
    le_of_mul-le-mul_right {m = q * d} {n = (u + 1) * 65536} {k = n}
    (omega (arith, mul-le-mul_right d (mul-div-le (c * 65536) n), mul-le-mul_right d up)) n_pos

module _ (w a A : ℕ) (fit : SegmentInput w a A) where
  pub width_small : 2 ^ w ≤ word_bound
  width_small = pow_mono fit.w-small

  pub segment-small : suc A * 2 ^ (w - a) ≤ word_bound
  segment-small = le_trans (segment-room w a A fit.a_small fit.A-small) width_small

pub segment-input : {row : Row} {w P a A : ℕ} → SlopeInput row w P a → A < 2 ^ a → SegmentInput w a A
segment-input fit h = record { w-small = fit.room.w-small; a_small = fit.a_small; A-small = h }

module _ (row : Row) (w P a A : ℕ) (fit : SlopeInput row w P a) (A-lt : A < 2 ^ a) where
  on-input : (X : ℕ) → OnSegment w a A X → FloorInput row w P X
  on-input X on = record { lawful = fit.lawful; room = fit.room; range = on-range w a A fit.a_small A-lt X on }

  pub start-input : FloorInput row w P (segment_start w a A)
  start-input = on-input (segment_start w a A) (start-on w a A fit.a_small A-lt)

  pub end-input : FloorInput row w P (segment_end w a A)
  end-input = on-input (segment_end w a A) (end_on w a A fit.a_small A-lt)

  pub ordered : (lo row w P (segment_start w a A) ≤ hi row w P (segment_start w a A))
      × (lo row w P (segment_end w a A) ≤ hi row w P (segment_start w a A))
  ordered = (
    lo-le-hi w a A fit.a_small A-lt row fit.lawful P _ (start-on w a A fit.a_small A-lt),
    lo-le-hi w a A fit.a_small A-lt row fit.lawful P _ (end_on w a A fit.a_small A-lt),
  )

  pub spread-small : spread row w P a A ≤ slope_bound
  unfolding spread hi
  spread-small =
      let s = segment_start w a A in
      omega (
        arith,
        hi_small (ceiling_value row w P s) (row.k * s) (omega (arith, ceiling-low row w P s, floor-small row w P s start-input)),
      )

  hi-scaled : hi row w P (segment_start w a A) * 2 ^ w ≤ (2 ^ P + 1) * 65536 + 2 ^ w
  unfolding hi
  hi-scaled =
      let s = segment_start w a A in
      omega (
        arith,
        slope-flat (ceiling_value row w P s) (floor_value row w P s) (row.k * s) (2 ^ w) (2 ^ P) (ceiling-low row w P s)
            (step-pos row w P s start-input)
            (omega (arith, mul-le-mul fit.lawful.k-pos start-input.range.low))
            (floor-flat row fit.lawful w P s start-input.range),
      )

  -- Hi + Lo, alone and with 2^w
  pub slopes-scaled : (hi row w P (segment_start w a A) + lo row w P (segment_end w a A)) * 2 ^ w ≤ product_bound
  slopes-scaled =
      omega (arith, mul-le-mul_right (2 ^ w) ordered.1, hi-scaled, words-few fit.room, pow_mono {j = finest_unit} fit.room.s-small)

  pub slopes-small : hi row w P (segment_start w a A) + lo row w P (segment_end w a A) ≤ product_bound
  slopes-small =
      omega (arith, slopes-scaled, mul-le-mul_left (hi row w P (segment_start w a A) + lo row w P (segment_end w a A)) (pow_pos w))
