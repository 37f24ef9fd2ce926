-- What a record comes to, sound or not: the next state or the refusal, and the tables after it.
use Rattle.std.specs.Prelude.{Result, Ok, Err}
use mathlib.Core.Path.{◌≡◌, refl, sym, ap, ◌∙◌}
use mathlib.Core.Bool.{true}
use mathlib.Core.List.{List, [], ◌∷◌}
use Prim.Native.Nat.{ℕ, ◌*◌, ◌≤◌}
use native.Mathlib.Omega.{arith}
use lib.IntN.{ℤ}
use lib.ListN.{length}
use Rattle.refusal.specs.declared.Cause.{Cause}
use Rattle.refusal.specs.Verdict.{Verdict}
use Rattle.refusal.specs.Checks.{verdict, if_passed, answer}
use Rattle.refusal.proofs.Answers.{answer-refused, answer-given}
use Rattle.design.specs.declared.Design.{Design}
use Rattle.design.specs.Stored.{initial_count}
use Rattle.tables.specs.Inputs.{Usable}
use Rattle.frames.specs.declared.Decoded.{Decoded}
use Rattle.encoding.specs.Bytes.{entry_bytes}
use Rattle.records.specs.declared.Extent.{Extent}
use Rattle.records.specs.SetBytes.{entry_count, byte_count, most_bytes}
use Rattle.records.specs.Record.{bytes_in, record_check, decoded_record}
use Rattle.records.proofs.ExtentLaws.{extent-bytes}
use Rattle.record_reading.specs.declared.HexReading.{HexReading}
use Rattle.record_reading.specs.declared.HexRead.{HexRead}
use Rattle.record_reading.specs.ReadRecord.{HexSession, hex_session, hex_possible, hex_verdict_on, hex_after, hex_answer}
use Rattle.record_reading.specs.Inputs.{TakenInput, due_verdict, after_record}
use Rattle.record_reading.proofs.StateLaws.{taken-within}
use Rattle.record_reading.proofs.TakeLaws.{Outcome}
use Rattle.record_reading.proofs.ReadLaws.{sound-due, sound-passes, sound-long}
use Rattle.record_reading.proofs.PaddedLaws.{array_of, due-same, after_same}

-- What decoding tells: a record that it refuses fails 21, and one that it does not passes it and is there with all bytes that an array holds.
module _ (text : List ℕ) where
  pub record-failed : {cause : Cause} → decoded_record text ≡ Err cause → verdict (record_check text ∷ []) ≡ Err cause
  unfolding decoded_record
  record-failed e = answer-refused (verdict (record_check text ∷ [])) _ e

  pub record-passed : {held : Decoded} → decoded_record text ≡ Ok held → verdict (record_check text ∷ []) ≡ Ok tt
  unfolding decoded_record
  record-passed e = (answer-given (verdict (record_check text ∷ [])) _ e).0

  pub record-whole : {held : Decoded} → decoded_record text ≡ Ok held
      → held ≡ record { bytes = array_of (bytes_in text); count = length (bytes_in text) }
  unfolding decoded_record
  record-whole e = sym (answer-given (verdict (record_check text ∷ [])) _ e).1

-- What the reading of a record has to come to: this next state or refusal, and these tables
abbrev pub RecordOutcome : Design → HexSession → List ℕ → Result HexReading Cause → List ℕ → List ℤ → Type 0
RecordOutcome d s text result initial offsets =
    let next = hex_after d s text in
    record {
      value : result ≡ answer (hex_verdict_on d s text) next.state;
      initial_table : initial ≡ next.initial;
      offset_tables : offsets ≡ next.offsets;
    }

-- What `read_record` makes of the next state or the refusal: a refusal gives back the state that came.
abbrev pub read_of : HexReading → Result HexReading Cause → HexRead
read_of came (Ok next) = record { verdict = Ok tt; state = next }
read_of came (Err cause) = record { verdict = Err cause; state = came }

read-by : (v : Verdict) (came moved : HexSession)
    → let after = if_passed v moved (λ cause. came) in
    read_of came.state (answer v after.state) ≡ record { verdict = v; state = after.state }
read-by (Ok tt) came moved = refl
read-by (Err cause) came moved = refl

pub read-told : (d : Design) (s : HexSession) (text : List ℕ) {result : Result HexReading Cause}
    → result ≡ answer (hex_verdict_on d s text) (hex_after d s text).state → read_of s.state result ≡ hex_answer d s text
unfolding hex_answer hex_after
read-told d s text e = ap (read_of s.state) e ∙ read-by (hex_verdict_on d s text) s _

module _ (d : Design) (state : HexReading) (initial : List ℕ) (offsets : List ℤ) (text : List ℕ) where
  -- A refusal leaves everything as it was.
  pub record-refused : (cause : Cause) → hex_verdict_on d (hex_session state initial offsets) text ≡ Err cause
      → RecordOutcome d (hex_session state initial offsets) text (Err cause) initial offsets
  unfolding hex_after
  record-refused cause e = rw e (record { value = refl; initial_table = refl; offset_tables = refl })

  -- A record of a possible state, for a set that passes 1 to 10 and 20, with the extent that the call tells
  module _ (u : Usable d (length initial) (length offsets)) (small : byte_count d ≤ most_bytes)
      (possible : hex_possible (byte_count d) state ≡ true) (extent : Extent)
      (extent-is : extent ≡ record { initials = initial_count d; entries = entry_count d }) where
    pub taken-input : TakenInput extent state (length initial) (length offsets)
    unfolding byte_count entry_count
    taken-input =
        rw extent-is
        (record {
          lent = record { few = small; initial-long = u.initial-long; offsets-long = omega (arith, u.offsets-long) };
          within = taken-within (byte_count d) state possible;
        })

    module _ (sound : verdict (record_check text ∷ []) ≡ Ok tt) where
      due-told : hex_verdict_on d (hex_session state initial offsets) text
          ≡ due_verdict (entry_bytes * extent.entries) state (bytes_in text) (length (bytes_in text))
      due-told = rw (extent-bytes d extent extent-is) (sound-due d (hex_session state initial offsets) text u small possible sound)

      after-told : hex_after d (hex_session state initial offsets) text
          ≡ after_record extent (hex_session state initial offsets) (bytes_in text) (length (bytes_in text))
      unfolding hex_after after_record
      after-told = rw (due-told, ← extent-bytes d extent extent-is, extent-is)

      -- A sound one comes to what its bytes come to, which are those of the array.
      pub record-taken : (result : Result HexReading Cause) (initial-after : List ℕ) (offsets-after : List ℤ)
          → Outcome extent (hex_session state initial offsets) (array_of (bytes_in text)) (length (bytes_in text)) result
          initial-after offsets-after
          → RecordOutcome d (hex_session state initial offsets) text result initial-after offsets-after
      record-taken result initial-after offsets-after o =
          let long = sound-long text (sound-passes text sound) in
          let told = rw (
            due-same (entry_bytes * extent.entries) state (bytes_in text) long,
            after_same extent (hex_session state initial offsets) (bytes_in text) long,
            ← due-told,
            ← after-told,
          ) at o in
          record { value = told.value; initial_table = told.initial_after; offset_tables = told.offsets_after }
