-- The exact value at X, between the two ends of an interval, by what the slopes of the tables gain from the end where it is lower and
-- up to the end where it is higher. In units of 2^-18 table units.
use mathlib.Core.Bool.{Bool}
use Prim.Native.Nat.{ℕ, ◌+◌, ◌*◌, ◌^◌, ◌≤◌, ◌<◌}
use native.Mathlib.Nat.{le_trans, le_of_lt}
use Rattle.general.specs.Below.{sum_below}
use Rattle.values.specs.declared.rows.Row.{Row}
use Rattle.values.specs.Rows.{Lawful}
use Rattle.values.specs.Inputs.{InRange}
use Rattle.values.specs.Exact.{AtMost, AtLeast, MoreThan}
use Rattle.values.specs.Floor.{floor_value}
use Rattle.values.proofs.ExactLaws.{below, number-cancel, at-most-finer, more-than-finer}
use Rattle.values.proofs.FloorLaws.{floor-greatest, floor-next}
use Rattle.values.proofs.SlopeLaws.{Steeper, Flatter, range-pos}
use Rattle.error_bound.proofs.Steps.{Rises, gain-at-most, gain-at-least}
use Rattle.error_bound.proofs.Climb.{Inside, climb}

-- An interval from s to e, and slopes of m tables that hold on it: high i at least, low i at most the slope
pub record Slopes (row : Row) (w P s e m : ℕ) (high low : ℕ → ℕ) : Type 0 where
  pub lawful : Lawful row
  pub range : (X : ℕ) → Inside s e X → InRange w X
  pub steep : (i : ℕ) → i < m → (X : ℕ) → Inside s e X → Steeper row w P X (high i)
  pub flat : (i : ℕ) → i < m → (X : ℕ) → Inside s e X → Flatter row w P X (low i)

-- The way on which the exact value rises: from u, by steps `done`, to X, and by steps `left` to v
pub record Course (rising : Bool) (s e m : ℕ) (done left : ℕ → ℕ) (u X v : ℕ) : Type 0 where
  pub at_first : Inside s e u
  pub at-X : Inside s e X
  pub at_last : Inside s e v
  pub before : Rises rising u (sum_below m done) X
  pub after : Rises rising X (sum_below m left) v

module _ {row : Row} {w P s e m : ℕ} {high low : ℕ → ℕ} (slopes : Slopes row w P s e m high low) where
  -- from u to v, by steps t
  module _ (t : ℕ → ℕ) (u v a : ℕ) (at-u : Inside s e u) (at-v : Inside s e v) (step : Rises row.rising u (sum_below m t) v) where
    rise-at-most : AtLeast row w (P + 18) u a → AtLeast row w (P + 18) v (a + sum_below m (λ i. high i * t i))
    rise-at-most =
        climb (AtLeast row w (P + 18)) row.rising s e high t m
        (λ i h u v a at-u at-v step. gain-at-most row slopes.lawful w P (high i) (t i) u v a
        (range-pos (slopes.range u at-u)) step (slopes.steep i h u at-u) (slopes.steep i h v at-v))
        u v a at-u at-v step

    rise-at-least : AtMost row w (P + 18) u a → AtMost row w (P + 18) v (a + sum_below m (λ i. low i * t i))
    rise-at-least =
        climb (AtMost row w (P + 18)) row.rising s e low t m
        (λ i h u v a at-u at-v step. gain-at-least row slopes.lawful w P (low i) (t i) u v a
        (range-pos (slopes.range u at-u)) step (slopes.flat i h u at-u) (slopes.flat i h v at-v))
        u v a at-u at-v step

  module _ (X : ℕ) (at-X : Inside s e X) where
    -- L with 18 more fraction bits, and one more of it
    floor-low : AtMost row w (P + 18) X (2 ^ 18 * floor_value row w P X)
    floor-low = at-most-finer row w X P 18 _ (floor-greatest row slopes.lawful w P X (slopes.range X at-X)).holds

    floor-high : MoreThan row w (P + 18) X (2 ^ 18 * (floor_value row w P X + 1))
    floor-high = more-than-finer row w X P 18 _ (floor-next row slopes.lawful w P X (slopes.range X at-X))

    cancel : {m n : ℕ} → AtMost row w (P + 18) X m → AtLeast row w (P + 18) X n → m ≤ n
    cancel low high = number-cancel row slopes.lawful w X (slopes.range X at-X) (le_trans low high)

  module _ {done left : ℕ → ℕ} {u X v : ℕ} (course : Course row.rising s e m done left u X v) (n : ℕ) where
    -- A number above the exact value is above both lower bounds,
    pub above-start : MoreThan row w (P + 18) X n → 2 ^ 18 * floor_value row w P u + sum_below m (λ i. low i * done i) < n
    above-start =
        below row w X (P + 18)
        (rise-at-least done u X _ course.at_first course.at-X course.before (floor-low u course.at_first))

    pub above-end : MoreThan row w (P + 18) X n → 2 ^ 18 * floor_value row w P v ≤ n + sum_below m (λ i. high i * left i)
    above-end h =
        cancel v course.at_last (floor-low v course.at_last)
        (rise-at-most left X v n course.at-X course.at_last course.after (le_of_lt h))

    -- and a number that is at most the exact value is below both upper bounds.
    pub below-start : AtMost row w (P + 18) X n → n ≤ 2 ^ 18 * (floor_value row w P u + 1) + sum_below m (λ i. high i * done i)
    below-start h =
        cancel X course.at-X h
        (rise-at-most done u X _ course.at_first course.at-X course.before (le_of_lt (floor-high u course.at_first)))

    pub below_end : AtMost row w (P + 18) X n → n + sum_below m (λ i. low i * left i) < 2 ^ 18 * (floor_value row w P v + 1)
    below_end h =
        below row w v (P + 18) (rise-at-least left X v n course.at-X course.at_last course.after h)
        (floor-high v course.at_last)
