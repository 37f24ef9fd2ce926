-- How many bytes a set takes, by the extent that the calls work with, and that a machine can count them.
use mathlib.Core.Path.{◌≡◌}
use Prim.Native.Nat.{◌+◌, ◌*◌, ◌≤◌}
use native.Mathlib.Omega.{arith}
use Rattle.design.specs.declared.Design.{Design}
use Rattle.design.specs.Limits.{most_initial, most_offsets}
use Rattle.design.specs.Stored.{initial_count}
use Rattle.design.specs.Legal.{Legal}
use Rattle.design.proofs.LegalLaws.{limits}
use Rattle.design.proofs.StoredLaws.{offset-total-small, initial-count-small}
use Rattle.encoding.specs.Bytes.{entry_bytes}
use Rattle.records.specs.declared.Extent.{Extent}
use Rattle.records.specs.SetBytes.{entry_count, byte_count}

pub extent-bytes : (d : Design) (extent : Extent) → extent ≡ record { initials = initial_count d; entries = entry_count d }
    → entry_bytes * extent.entries ≡ byte_count d
unfolding byte_count
extent-bytes d extent extent-is = rw extent-is

pub bytes-bounded : (d : Design) → Legal d → byte_count d ≤ entry_bytes * (most_initial + most_offsets)
unfolding byte_count entry_count
bytes-bounded d legal =
    let l = limits d legal in
    omega (arith, initial-count-small d l, offset-total-small d l)
