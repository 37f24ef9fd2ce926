-- `tables::lookups::place_of` meets its contract: the shifts and remainders of the definition, none of which wraps.
use mathlib.Core.Path.{◌≡◌}
use Prim.Native.Nat.{ℕ, ◌+◌, ◌-◌, ◌*◌, ◌/◌, ◌%◌, ◌^◌}
use native.Mathlib.Omega.{arith}
use Rattle.tables.specs.declared.lookups.Lookup.{Lookup}
use Rattle.tables.specs.Inputs.{Small}
use Rattle.tables.specs.Lookup.{place_at}
use Rattle.tables.proofs.LookupLaws.{shl_one}
use Rattle.tables.proofs.lookups.place_of.Goals as goal

-- the place, where the remainders are by what the shift makes
place_is : (lookup : Lookup) (near x : ℕ) → Small lookup →
    let size = 1 * 2 ^ lookup.b % 2 ^ 32 in
    let top = near / 2 ^ lookup.shift in
    lookup.start + (top - top % size + x / 2 ^ lookup.position % size) ≡ place_at lookup near x
unfolding place_at
place_is lookup near x small = rw (shl_one lookup.b (omega arith))

pub returns : goal.returns
returns c = place_is _ _ _ c.requires.small
