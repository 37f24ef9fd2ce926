-- Document 02, A2: "a set's entries, 3 bytes each, big-endian, initial entries first". `initials` is how many of the entries are initial
-- entries; the offsets follow as they lie in their table.
use Rattle.std.specs.Prelude.{Bool, cond, List, [], ◌∷◌, ◌++◌, ℕ, zero, suc, ◌+◌, ◌-◌, ◌*◌, ltb, get_or, ℤ, pos}
use Rattle.refusal.specs.declared.Cause.{Cause}
use Rattle.refusal.specs.Checks.{Check, ◌↝◌}
use Rattle.design.specs.declared.Design.{Design}
use Rattle.design.specs.Stored.{initial_count, offset_total}
use Rattle.tables.specs.Set.{set_checks}
use Rattle.encoding.specs.Bytes.{big_endian, entry_bytes, complement, fits, fits_signed}
use Rattle.records.specs.IntelHex.{record_of, records_of}

-- How many entries a set has, and how many bytes they take
unfoldable pub entry_count : Design → ℕ
entry_count d = initial_count d + offset_total d

unfoldable pub byte_count : Design → ℕ
byte_count d = entry_bytes * entry_count d

-- The number that entry e is written as: "Offsets are in two's complement".
unfoldable pub entry_at : ℕ → List ℕ → List ℤ → ℕ → ℕ
entry_at initials initial offsets e =
    cond (ltb e initials) (get_or initial e 0) (complement entry_bytes (get_or offsets (e - initials) (pos 0)))

-- 18, "an entry that does not fit", the other way round
unfoldable pub entry_fits : ℕ → List ℕ → List ℤ → ℕ → Bool
entry_fits initials initial offsets e =
    cond (ltb e initials) (fits entry_bytes (get_or initial e 0)) (fits_signed entry_bytes (get_or offsets (e - initials) (pos 0)))

-- The bytes of numbers, 3 each
unfoldable pub bytes_below : ℕ → (ℕ → ℕ) → List ℕ
bytes_below zero number = []
bytes_below (suc n) number = bytes_below n number ++ big_endian entry_bytes (number n)

unfoldable pub set_bytes : Design → List ℕ → List ℤ → List ℕ
set_bytes d initial offsets = bytes_below (entry_count d) (entry_at (initial_count d) initial offsets)

-- Record n of a set, and all its records in order
unfoldable pub set_record : Design → List ℕ → List ℤ → ℕ → List ℕ
set_record d initial offsets n = record_of (set_bytes d initial offsets) n

unfoldable pub set_records : Design → List ℕ → List ℤ → List (List ℕ)
set_records d initial offsets = records_of (set_bytes d initial offsets)

-- 20, "the entries take more than 65,536 bytes": the addresses of two bytes reach no further.
abbrev pub most_bytes : ℕ
most_bytes = 65536

unfoldable pub bytes_check : Design → Check
bytes_check d = ltb most_bytes (byte_count d) ↝ Cause.AddressRange

-- "Checks: 1 to 10, 20", for tables of these lengths
unfoldable pub record_set_checks : Design → ℕ → ℕ → List Check
record_set_checks d initial offsets = set_checks d initial offsets ++ bytes_check d ∷ []
