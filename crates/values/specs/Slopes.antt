-- Document 01, "Slopes and budget": the segment of a value A of the top a bits of x, and the bounds Hi and Lo of the slope on it. Hi as
-- document 02, A7, has it.
use Rattle.std.specs.Prelude.{cond, ℕ, ◌+◌, ◌-◌, ◌*◌, ◌/◌, ◌^◌}
use Rattle.general.specs.Below.{largest}
use Rattle.values.specs.declared.rows.Row.{Row}
use Rattle.values.specs.declared.slopes.LargestSlopes.{LargestSlopes}
use Rattle.values.specs.Floor.{floor_value, is_whole}

-- "from X = s = 2^w + A_i·2^(w-a_i) to X = e = s + 2^(w-a_i) - 1"
unfoldable pub segment_start : ℕ → ℕ → ℕ → ℕ
segment_start w a A = 2 ^ w + A * 2 ^ (w - a)

unfoldable pub segment_end : ℕ → ℕ → ℕ → ℕ
unfolding segment_start
segment_end w a A = segment_start w a A + 2 ^ (w - a) - 1

-- Document 02, A7: "Where it is, Hi takes L(s) in place of L(s)+1", where E(s) is the whole number L(s). Either way it is E(s) rounded up.
unfoldable pub ceiling_value : Row → ℕ → ℕ → ℕ → ℕ
ceiling_value row w P s = cond (is_whole row w P s) (floor_value row w P s) (floor_value row w P s + 1)

-- "Hi = floor((L(s)+1)·65536 / (k·s)) + 1", with that in place of L(s)+1
unfoldable pub hi : Row → ℕ → ℕ → ℕ → ℕ
hi row w P s = ceiling_value row w P s * 65536 / (row.k * s) + 1

-- "Lo = floor(L(e)·65536 / (k·e))"
unfoldable pub lo : Row → ℕ → ℕ → ℕ → ℕ
lo row w P e = floor_value row w P e * 65536 / (row.k * e)

-- Hi - Lo of the segment of A
unfoldable pub spread : Row → ℕ → ℕ → ℕ → ℕ → ℕ
spread row w P a A = hi row w P (segment_start w a A) - lo row w P (segment_end w a A)

-- "the largest Hi - Lo over all A_i"
unfoldable pub largest_spread : Row → ℕ → ℕ → ℕ → ℕ
largest_spread row w P a = largest (2 ^ a) (spread row w P a)

-- Hi + Lo, as in document 01's "Filling", and the largest over all A_i
unfoldable pub slope_sum : Row → ℕ → ℕ → ℕ → ℕ → ℕ
slope_sum row w P a A = hi row w P (segment_start w a A) + lo row w P (segment_end w a A)

unfoldable pub largest_sum : Row → ℕ → ℕ → ℕ → ℕ
largest_sum row w P a = largest (2 ^ a) (slope_sum row w P a)

-- Both of these largest
abbrev pub largest_slopes : Row → ℕ → ℕ → ℕ → LargestSlopes
largest_slopes row w P a = record { spread = largest_spread row w P a; sum = largest_sum row w P a }
