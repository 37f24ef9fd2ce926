-- What the call `write_record` answers, "1 to 10, 20, then 19, 18, 14 for the writer", and what it leaves in the record buffer.
use Rattle.std.specs.Prelude.{Bool, not, ◌&&◌, List, [], ◌∷◌, ◌++◌, ℕ, ◌+◌, ◌*◌, leb, ltb, length, ℤ, Result}
use Rattle.general.specs.Below.{some_below}
use Rattle.refusal.specs.declared.Cause.{Cause}
use Rattle.refusal.specs.Verdict.{Verdict}
use Rattle.refusal.specs.Checks.{Check, ◌↝◌, verdict, leaves}
use Rattle.refusal.specs.Told.{Told, told}
use Rattle.design.specs.declared.Design.{Design}
use Rattle.design.specs.Stored.{initial_count}
use Rattle.encoding.specs.Bytes.{entry_bytes}
use Rattle.writing.specs.Write.{width_check, room_check, written_if}
use Rattle.records.specs.IntelHex.{data_bytes, record_count}
use Rattle.records.specs.SetBytes.{entry_count, byte_count, entry_fits, set_record, record_set_checks}

-- 19, the number is past the set's records, the end record among them
unfoldable pub hex_number_check : Design → ℕ → Check
hex_number_check d n = leb (record_count (byte_count d)) n ↝ Cause.LineNumber

-- Whether entry e has a byte in record n: it ends behind the record's start and starts before the record's end.
unfoldable pub has_byte_in : ℕ → ℕ → Bool
has_byte_in n e = ltb (data_bytes * n) (entry_bytes * (e + 1)) && ltb (entry_bytes * e) (data_bytes * (n + 1))

-- "18 for any entry with a byte in the record", the other way round: of so many entries, of which `initials` are initial entries
unfoldable pub record_fits : ℕ → ℕ → List ℕ → List ℤ → ℕ → Bool
record_fits entries initials initial offsets n =
    not (some_below entries (λ e. has_byte_in n e && not (entry_fits initials initial offsets e)))

-- "1 to 10, 20, then 19, 18, 14": n is the asked number, `buffer` the length of the record buffer.
unfoldable pub hex_write_verdict : Design → List ℕ → List ℤ → ℕ → ℕ → Verdict
hex_write_verdict d initial offsets n buffer =
    verdict (record_set_checks d (length initial) (length offsets) ++ hex_number_check d n
    ∷ width_check (record_fits (entry_count d) (initial_count d) initial offsets n)
    ∷ room_check (length (set_record d initial offsets n)) buffer ∷ [])

-- The record's length, as the writer of lines answers with the line's
unfoldable pub hex_write_answer : Design → List ℕ → List ℤ → ℕ → ℕ → Result ℕ Cause
hex_write_answer d initial offsets n buffer = written_if (hex_write_verdict d initial offsets n buffer) (set_record d initial offsets n)

-- The record stands at the start of the buffer, the rest is untouched; a refusal leaves the buffer untouched.
unfoldable pub record_buffer_after : Design → List ℕ → List ℤ → ℕ → List ℕ → List ℕ
record_buffer_after d initial offsets n buffer =
    leaves (hex_write_verdict d initial offsets n (length buffer)) (set_record d initial offsets n) buffer

-- What is to be told: a refusal, or the record's length
unfoldable pub hex_write_told : Design → List ℕ → List ℤ → ℕ → ℕ → Told ℕ
hex_write_told d initial offsets n buffer = told (hex_write_verdict d initial offsets n buffer) (length (set_record d initial offsets n))
