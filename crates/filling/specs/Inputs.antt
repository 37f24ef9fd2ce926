-- What inner calls may count on. Their callers are proved to see to it.
use Rattle.std.specs.Prelude.{◌≡◌, ℕ, ◌<◌}
use Rattle.design.specs.declared.Design.{Design}
use Rattle.design.specs.Cut.{position}
use Rattle.design.specs.Stored.{offset_count}

-- A table is to be written: table i, whose bits begin at p, into this many offsets, which are all of it.
pub record TableInput (d : Design) (i p offsets : ℕ) : Type 0 where
  pub i_lt : i < d.m
  pub p-is : p ≡ position d i
  pub long : offsets ≡ offset_count d i
