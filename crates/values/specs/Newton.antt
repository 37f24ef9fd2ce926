-- A step of Newton's method for the k-th root of a limit, from r: floor(((k-1)·r + floor(limit / r^(k-1))) / k).
use Rattle.std.specs.Prelude.{ℕ, zero, suc, ◌+◌, ◌*◌, ◌/◌, ◌^◌}

unfoldable pub newton_sum : ℕ → ℕ → ℕ → ℕ
newton_sum zero limit r = 0
newton_sum (suc j) limit r = j * r + limit / r ^ j

unfoldable pub newton_step : ℕ → ℕ → ℕ → ℕ
newton_step k limit r = newton_sum k limit r / k
