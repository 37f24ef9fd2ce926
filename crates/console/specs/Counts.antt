-- What can be said of how many bytes came.
use Rattle.std.specs.Prelude.{◌≡◌, List, ℕ, ◌≤◌, min, length, take, Result, Ok, Err}

-- `&xs[..n]` is in bounds and has n bytes. The second part follows from the first, and spares a caller's `&buf[..n]` a proof file.
abbrev pub IsPrefixLen : ℕ → List ℕ → Type 0
IsPrefixLen n xs = (n ≤ length xs) × (n ≡ length (take n xs))

-- How many bytes of a block came, by what the read of it returned, brought into `0..=most`: none, where it could not be read
abbrev pub came_count : {E : Type 0} → Result ℕ E → ℕ → ℕ
came_count (Ok n) most = min n most
came_count (Err e) most = 0
