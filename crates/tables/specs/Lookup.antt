-- What a lookup needs of the design: each table's numbers, from which shifts and adds alone lead to the place of x's offset.
use Rattle.std.specs.Prelude.{ℕ, ◌+◌, ◌-◌, ◌/◌, ◌%◌, ◌^◌}
use Rattle.design.specs.declared.Design.{Design}
use Rattle.design.specs.Cut as Cut
use Rattle.design.specs.Cut.{a_of, b_of}
use Rattle.design.specs.Stored.{table_start}
use Rattle.tables.specs.declared.lookups.Lookup.{Lookup}
use Rattle.tables.specs.declared.lookups.Lookups.{Lookups}

-- Table i: the top a_i + b_i bits of x begin at w - (a_i + b_i), the b_i bits B_i of x at p_i.
unfoldable pub lookup_of : Design → ℕ → Lookup
lookup_of d i =
    record {
      shift = d.w - (a_of d i + b_of d i);
      b = b_of d i;
      position = Cut.position d i;
      start = table_start d i;
    }

unfoldable pub lookups_of : Design → Lookups
lookups_of d = record { first = lookup_of d 0; second = lookup_of d 1; third = lookup_of d 2; fourth = lookup_of d 3 }

-- Where x's offset lies: A_i·2^(b_i) is the top a_i + b_i bits of x, or of any word of x's interval, less the low b_i bits of those.
unfoldable pub place_at : Lookup → ℕ → ℕ → ℕ
place_at lookup near x =
    let top = near / 2 ^ lookup.shift in
    lookup.start + (top - top % 2 ^ lookup.b + x / 2 ^ lookup.position % 2 ^ lookup.b)
