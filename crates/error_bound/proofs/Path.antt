-- How far X lies from the two ends of the interval of A, a table at a time.
use mathlib.Core.Path.{◌≡◌, sym}
use mathlib.Core.Bool.{Bool, true, false, cond}
use Prim.Native.Nat.{ℕ, zero, suc, ◌+◌, ◌-◌, ◌*◌, ◌^◌, ◌≤◌, ◌<◌}
use native.Mathlib.Nat.{le_refl, le_of_lt, pow-zero}
use native.Mathlib.Omega.{arith}
use lib.Pow.{pow-add, pow_pos}
use Rattle.general.specs.Below.{sum_below}
use Rattle.values.specs.Slopes.{segment_start, segment_end}
use Rattle.values.proofs.SlopeLaws.{OnSegment, on-range, hi-steeper, lo-flatter}
use Rattle.design.specs.declared.Design.{Design}
use Rattle.design.specs.Cut.{a_of, b_of, row, fraction_bits, position, initial_word, segment_word, offset_word}
use Rattle.design.specs.Stored.{initial_count}
use Rattle.design.specs.Budget.{reach}
use Rattle.design.proofs.LegalLaws.{Limits, lawful}
use Rattle.design.proofs.CutLaws.{offset-word-lt, cut_word, initial-word-lt, segment-word-lt, segment-within}
use Rattle.entries.specs.Entries.{hi_at, lo_at}
use Rattle.error_bound.proofs.Steps.{Rises}
use Rattle.error_bound.proofs.Climb.{Inside}
use Rattle.error_bound.proofs.Enclosed.{Slopes, Course}

-- In table i, X lies B·2^p above the start and (2^b - 1 - B)·2^p below the end.
unfoldable pub behind : Design → ℕ → ℕ → ℕ
behind d x i = offset_word d i x * 2 ^ position d i

unfoldable pub ahead : Design → ℕ → ℕ → ℕ
ahead d x i = (2 ^ b_of d i - 1 - offset_word d i x) * 2 ^ position d i

pub parts : (n m r p : ℕ) → n ≡ m + r → n * p ≡ m * p + r * p
parts n m r p e = rw e (omega arith)

module _ (d : Design) where
  -- the two make up D_i,
  pub behind-ahead : (x i : ℕ) → behind d x i + ahead d x i ≡ reach d i
  unfolding behind ahead reach
  behind-ahead x i =
      sym (parts (2 ^ b_of d i - 1) (offset_word d i x) _ (2 ^ position d i) (omega (arith, offset-word-lt d i x, pow_pos (b_of d i))))

  sum-behind-ahead : (x n : ℕ) → sum_below n (behind d x) + sum_below n (ahead d x) ≡ sum_below n (reach d)
  unfolding sum_below
  sum-behind-ahead x zero = omega arith
  sum-behind-ahead x (suc n) = omega (arith, sum-behind-ahead x n, behind-ahead x n)

  -- and all D_i the low bits.
  sum-reach : (n : ℕ) → sum_below n (reach d) + 1 ≡ 2 ^ position d n
  unfolding sum_below reach position
  sum-reach zero = omega (arith, pow-zero 2)
  sum-reach (suc n) =
      let b = 2 ^ b_of d n in
      rw (pow-add 2 (position d n) (b_of d n))
      (omega (arith, sum-reach n, parts b (b - 1) 1 (2 ^ position d n) (omega (arith, pow_pos (b_of d n)))))

-- The interval of A, for an input word x
unfoldable pub interval_start : Design → ℕ → ℕ
interval_start d x = segment_start d.w d.alpha (initial_word d x)

unfoldable pub interval_end : Design → ℕ → ℕ
interval_end d x = segment_end d.w d.alpha (initial_word d x)

module _ (d : Design) (l : Limits d) (x : ℕ) where
  -- X from the start, and the end from X
  from_start : 2 ^ d.w + x ≡ interval_start d x + sum_below d.m (behind d x)
  unfolding interval_start segment_start behind
  from_start = omega (arith, cut_word d l x)

  to_end : interval_end d x ≡ 2 ^ d.w + x + sum_below d.m (ahead d x)
  unfolding interval_end segment_end interval_start
  to_end = omega (arith, from_start, sum-behind-ahead d x d.m, rw l.cut at (sum-reach d d.m))

-- Along the direction in which the exact value rises: where it starts, how far it is to X, how far from there, and where it ends
abbrev pub first : Design → ℕ → ℕ
first d x = cond (row d).rising (interval_start d x) (interval_end d x)

abbrev pub last : Design → ℕ → ℕ
last d x = cond (row d).rising (interval_end d x) (interval_start d x)

abbrev pub done : Design → ℕ → ℕ → ℕ
done d x i = cond (row d).rising (behind d x i) (ahead d x i)

abbrev pub left : Design → ℕ → ℕ → ℕ
left d x i = cond (row d).rising (ahead d x i) (behind d x i)

-- Either direction, over plain numbers
module _ (behind ahead : ℕ → ℕ) (m s X e : ℕ) (above : X ≡ s + sum_below m behind) (under : e ≡ X + sum_below m ahead) where
  to-X : (rising : Bool) → Rises rising (cond rising s e) (sum_below m (λ i. cond rising (behind i) (ahead i))) X
  to-X true = above
  to-X false = under

  from-X : (rising : Bool) → Rises rising X (sum_below m (λ i. cond rising (ahead i) (behind i))) (cond rising e s)
  from-X true = under
  from-X false = above

  inside-X : Inside s e X
  inside-X = record { from = omega arith; to = omega arith }

  inside-first : (rising : Bool) → Inside s e (cond rising s e)
  inside-first true = record { from = le_refl s; to = omega arith }
  inside-first false = record { from = omega arith; to = le_refl e }

  inside-last : (rising : Bool) → Inside s e (cond rising e s)
  inside-last true = record { from = omega arith; to = le_refl e }
  inside-last false = record { from = le_refl s; to = omega arith }

-- done and left make up D_i too
swap : (rising : Bool) (a b r : ℕ) → a + b ≡ r → cond rising a b + cond rising b a ≡ r
swap true a b r e = e
swap false a b r e = omega arith

pub done-left : (d : Design) (x i : ℕ) → done d x i + left d x i ≡ reach d i
done-left d x i = swap (row d).rising _ _ _ (behind-ahead d x i)

-- The course of an input word
pub course : (d : Design) (l : Limits d) (x : ℕ)
    → Course (row d).rising (interval_start d x) (interval_end d x) d.m (done d x) (left d x) (first d x) (2 ^ d.w + x) (last d x)
course d l x =
    let up = (row d).rising in
    let a = from_start d l x in
    let b = to_end d l x in
    record {
      at_first = inside-first _ _ d.m _ _ _ a b up;
      at-X = inside-X _ _ d.m _ _ _ a b;
      at_last = inside-last _ _ d.m _ _ _ a b up;
      before = to-X (behind d x) (ahead d x) d.m _ _ _ a b up;
      after = from-X (behind d x) (ahead d x) d.m _ _ _ a b up;
    }

-- 4·Hi and 4·Lo of the segments that x lies on bound the slope all over the interval of A.
module _ (d : Design) (l : Limits d) (x : ℕ) (x_lt : x < 2 ^ d.w) where
  on : (i : ℕ) → i < d.m → (X : ℕ) → Inside (interval_start d x) (interval_end d x) X → OnSegment d.w (a_of d i) (segment_word d i x) X
  unfolding interval_start interval_end segment_word initial_word
  on i h X inside =
      segment-within d.w d.alpha (a_of d i) x X (l.table i h).a-high (le_of_lt l.alpha-below)
      (record { from = inside.from; to = inside.to })

  pub slopes-hold : Slopes (row d) d.w (fraction_bits d) (interval_start d x) (interval_end d x) d.m
      (λ i. 4 * hi_at d i (segment_word d i x)) (λ i. 4 * lo_at d i (segment_word d i x))
  unfolding hi_at lo_at interval_start interval_end initial_count
  slopes-hold =
      record {
        lawful = lawful d l;
        range = λ X inside. on-range d.w d.alpha (initial_word d x) (le_of_lt l.alpha-below) (initial-word-lt d l x x_lt) X
            (record { from = inside.from; to = inside.to });
        steep = λ i h X inside. hi-steeper d.w (a_of d i) (segment_word d i x) (a-le i h) (segment-word-lt d l i x h x_lt)
            (row d) (lawful d l) (fraction_bits d) X (on i h X inside);
        flat = λ i h X inside. lo-flatter d.w (a_of d i) (segment_word d i x) (a-le i h) (segment-word-lt d l i x h x_lt)
            (row d) (lawful d l) (fraction_bits d) X (on i h X inside);
      }
    where
      a-le : (i : ℕ) → i < d.m → a_of d i ≤ d.w
      a-le i h = omega (arith, (l.table i h).a-high, l.alpha-below)
