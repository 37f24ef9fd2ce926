-- How many binary digits a number has: so many that it is below their power of two, and no fewer. 0 has none.
use Rattle.std.specs.Prelude.{ℕ, ◌+◌, ◌*◌, ◌^◌, ◌≤◌, ◌<◌}

pub record Digits (n count : ℕ) : Type 0 where
  pub enough : n < 2 ^ count
  pub fewest : 2 ^ count ≤ 2 * n + 1
