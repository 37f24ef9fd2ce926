-- What the call `read_record` answers, "1 to 10, 20, then .. 17, 21, 22 for the reader", and what it leaves in the state and the tables.
use Rattle.std.specs.Prelude.{Bool, not, ◌||◌, ◌&&◌, List, [], ◌∷◌, ◌++◌, ℕ, ◌+◌, ◌/◌, ◌%◌, leb, ltb, eqb, length, take, drop, get_or, ℤ}
use Rattle.refusal.specs.declared.Cause.{Cause}
use Rattle.refusal.specs.Verdict.{Verdict}
use Rattle.refusal.specs.Checks.{Check, ◌↝◌, verdict, if_passed, passes}
use Rattle.design.specs.declared.Design.{Design}
use Rattle.design.specs.Stored.{initial_count}
use Rattle.design.specs.Legal.{design_checks}
use Rattle.encoding.specs.Bytes.{entry_bytes}
use Rattle.reading.specs.ReadLine.{head_fails}
use Rattle.records.specs.IntelHex.{record_count, bytes_before, length_at, record_head}
use Rattle.records.specs.SetBytes.{byte_count, bytes_check, record_set_checks}
use Rattle.records.specs.Record.{bytes_in, record_check}
use Rattle.record_reading.specs.declared.HexReading.{HexReading}
use Rattle.record_reading.specs.declared.HexRead.{HexRead}
use Rattle.record_reading.specs.Storing.{initial_home, offset_home, stored_from, cut_bytes}

-- "two bytes, which from the first on hold the start of an entry cut by a record's end": how many of them do so after n records
unfoldable pub held_count : ℕ → ℕ → ℕ
held_count total n = bytes_before total n % entry_bytes

-- "unused ones are 0", where k of them are used
unfoldable pub unused_fail : ℕ → HexReading → Bool
unused_fail k state = (eqb k 0 && not (eqb state.first 0)) || (ltb k 2 && not (eqb state.second 0))

-- "A state with more records than the set has, or an unused byte not 0, is not possible."
unfoldable pub hex_possible : ℕ → HexReading → Bool
hex_possible total state =
    leb state.taken (record_count total) && not (unused_fail (held_count total state.taken) state)

-- 17
unfoldable pub hex_state_check : ℕ → HexReading → Check
hex_state_check total state = not (hex_possible total state) ↝ Cause.State

-- A finished reading: the design is legal and its entries have addresses, the state is possible, and all records are taken.
unfoldable pub hex_finished : Design → HexReading → Bool
hex_finished d state =
    passes (verdict (design_checks d ++ bytes_check d ∷ []))
    && hex_possible (byte_count d) state && eqb state.taken (record_count (byte_count d))

-- 22 of a sound record, given as its bytes and their number, "its length byte, address or type is not the one due"; with all records taken
-- none is due.
unfoldable pub record_due_check : ℕ → HexReading → List ℕ → ℕ → Check
record_due_check total state bytes count =
    (leb (record_count total) state.taken
    || head_fails (record_head total state.taken) (length_at total state.taken) bytes count) ↝ Cause.RecordDue

-- "17, 21, 22 for the reader"
unfoldable pub hex_checks : ℕ → HexReading → List ℕ → List Check
hex_checks total state text =
    let bytes = bytes_in text in
    hex_state_check total state ∷ record_check text ∷ record_due_check total state bytes (length bytes) ∷ []

-- A reading: its state, and the tables that it stores in
pub record HexSession : Type 0 where
  pub state : HexReading
  pub initial : List ℕ
  pub offsets : List ℤ

abbrev pub hex_session : HexReading → List ℕ → List ℤ → HexSession
hex_session state initial offsets = record { state = state; initial = initial; offsets = offsets }

-- The verdict of a reading on a record, for a design: "1 to 10, 20, then .. 17, 21, 22"
unfoldable pub hex_verdict_on : Design → HexSession → List ℕ → Verdict
hex_verdict_on d s text =
    verdict (record_set_checks d (length s.initial) (length s.offsets) ++ hex_checks (byte_count d) s.state text)

-- The data of record n, which is given as all its bytes: they stand behind the 4 bytes of its head.
unfoldable pub data_of : ℕ → ℕ → List ℕ → List ℕ
data_of total n bytes = take (length_at total n) (drop 4 bytes)

-- The bytes from the start of an entry on: those of the entry that was cut, and behind them the record's data
unfoldable pub stream : ℕ → HexReading → List ℕ → List ℕ
stream total state bytes =
    take (held_count total state.taken) (state.first ∷ state.second ∷ []) ++ data_of total state.taken bytes

-- The state after one record more: these bytes are held, "unused ones are 0".
unfoldable pub holding : ℕ → List ℕ → HexReading
holding taken bytes = record { taken = taken; first = get_or bytes 0 0; second = get_or bytes 1 0 }

-- The reading after a record that is due, which is given as its bytes, into a set of so many initial entries and so many bytes: the entries
-- whose third byte it brings are stored, all else stands.
abbrev pub hex_moved : ℕ → ℕ → HexSession → List ℕ → HexSession
hex_moved initials total s bytes =
    let n = s.state.taken in
    let came = stream total s.state bytes in
    let e = bytes_before total n / entry_bytes in
    record {
      state = holding (n + 1) (cut_bytes came);
      initial = stored_from (initial_home initials) e came s.initial;
      offsets = stored_from (offset_home initials) e came s.offsets;
    }

-- A refusal leaves both tables untouched and gives back the state that came in.
unfoldable pub hex_after : Design → HexSession → List ℕ → HexSession
hex_after d s text =
    if_passed (hex_verdict_on d s text) (hex_moved (initial_count d) (byte_count d) s (bytes_in text)) (λ cause. s)

-- What `read_record` returns: the verdict, and the next state beside it
unfoldable pub hex_answer : Design → HexSession → List ℕ → HexRead
hex_answer d s text = record { verdict = hex_verdict_on d s text; state = (hex_after d s text).state }
