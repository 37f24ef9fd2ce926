-- What the checks on a record come to, "1 to 10, 20, then .. 17, 21, 22", case by case, and what a sound record tells.
use Rattle.std.specs.Prelude.{Ok, Err}
use mathlib.Core.Path.{◌≡◌, ap, ◌∙◌}
use mathlib.Core.Bool.{true, false, not, ◌||◌}
use mathlib.Core.List.{List, [], ◌∷◌, append_assoc}
use Prim.Native.Nat.{ℕ, ◌+◌, ◌*◌, ◌≤◌, ◌<◌}
use native.Mathlib.Omega.{arith}
use lib.Dec.{eqb}
use lib.ListN.{length, get_or}
use borrow.Author.Tests.{lt-ltb, le-ltb, eqb-true, not-false}
use Rattle.general.proofs.Tests.{neither}
use Rattle.refusal.specs.declared.Cause.{Cause}
use Rattle.refusal.specs.Verdict.{Verdict}
use Rattle.refusal.specs.Checks.{verdict}
use Rattle.refusal.proofs.Checks.{after, verdict-append, none-fails}
use Rattle.design.specs.declared.Design.{Design}
use Rattle.tables.specs.Inputs.{Usable}
use Rattle.tables.specs.Set.{set_checks}
use Rattle.tables.proofs.SetLaws.{set-passed}
use Rattle.frames.specs.Hex.{bytes_of}
use Rattle.frames.proofs.HexLaws.{bytes-length}
use Rattle.records.specs.SetBytes.{byte_count, most_bytes, bytes_check, record_set_checks}
use Rattle.frames.specs.Line.{text_fails}
use Rattle.records.specs.Record.{digits_in, bytes_in, other_bytes, size_fails, record_fails, record_check}
use Rattle.record_reading.specs.ReadRecord.{hex_possible, hex_state_check, record_due_check, hex_checks, HexSession, hex_verdict_on}
use Rattle.record_reading.specs.Inputs.{due_verdict}

module _ (d : Design) (s : HexSession) (text : List ℕ) where
  abbrev set_verdict : Verdict
  set_verdict = verdict (set_checks d (length s.initial) (length s.offsets))

  -- 1 to 10 come first, then 20, and then the reader's own.
  in_order : hex_verdict_on d s text ≡ after set_verdict (verdict (bytes_check d ∷ hex_checks (byte_count d) s.state text))
  unfolding hex_verdict_on record_set_checks
  in_order =
      let first = set_checks d (length s.initial) (length s.offsets) in
      let own = hex_checks (byte_count d) s.state text in
      ap verdict (append_assoc first (bytes_check d ∷ []) own) ∙ verdict-append first (bytes_check d ∷ own)

  -- A set that is refused by 1 to 10 is refused;
  pub set-refuses : (cause : Cause) → set_verdict ≡ Err cause → hex_verdict_on d s text ≡ Err cause
  set-refuses cause e = rw (in_order, e)

  module _ (u : Usable d (length s.initial) (length s.offsets)) where
    usable-order : hex_verdict_on d s text ≡ verdict (bytes_check d ∷ hex_checks (byte_count d) s.state text)
    usable-order = rw (in_order, set-passed _ _ _ u)

    -- then one whose entries have no addresses, by 20;
    pub large-refused : most_bytes < byte_count d → hex_verdict_on d s text ≡ Err Cause.AddressRange
    unfolding bytes_check
    large-refused h = rw (usable-order, lt-ltb _ _ h)

    module _ (small : byte_count d ≤ most_bytes) where
      reader-order : hex_verdict_on d s text ≡ verdict (hex_checks (byte_count d) s.state text)
      unfolding bytes_check
      reader-order = rw (usable-order, le-ltb _ _ small)

      -- then an impossible state, by 17;
      pub impossible-refused : hex_possible (byte_count d) s.state ≡ false → hex_verdict_on d s text ≡ Err Cause.State
      unfolding hex_checks hex_state_check
      impossible-refused e = rw (reader-order, e)

      module _ (possible : hex_possible (byte_count d) s.state ≡ true) where
        -- then a record that is not sound, by 21;
        pub unsound-refused : (cause : Cause) → verdict (record_check text ∷ []) ≡ Err cause
            → hex_verdict_on d s text ≡ Err cause
        unfolding hex_checks hex_state_check
        unsound-refused cause e =
            let due = record_due_check (byte_count d) s.state (bytes_in text) (length (bytes_in text)) in
            rw (reader-order, possible, verdict-append (record_check text ∷ []) (due ∷ []), e)

        -- and of a sound one 22 is left.
        pub sound-due : verdict (record_check text ∷ []) ≡ Ok tt
            → hex_verdict_on d s text ≡ due_verdict (byte_count d) s.state (bytes_in text) (length (bytes_in text))
        unfolding hex_checks hex_state_check due_verdict
        sound-due e =
            let due = record_due_check (byte_count d) s.state (bytes_in text) (length (bytes_in text)) in
            rw (reader-order, possible, verdict-append (record_check text ∷ []) (due ∷ []), e)

-- A record that passes 21 is sound,
pub sound-passes : (text : List ℕ) → verdict (record_check text ∷ []) ≡ Ok tt → record_fails text ≡ false
unfolding record_check
sound-passes text e = (none-fails (record_check text ∷ []) e).0

-- and a sound record has the bytes beside its data.
pub sound-long : (text : List ℕ) → record_fails text ≡ false → other_bytes ≤ length (bytes_in text)
unfolding record_fails size_fails
sound-long text e =
    let digits = digits_in text in
    let size = get_or (bytes_of digits) 0 0 + other_bytes in
    let colon = not (eqb (get_or text 0 0) 58) in
    let fits = (neither colon (size_fails digits) (neither (colon || size_fails digits) (text_fails digits) e).0).1 in
    let count = bytes-length size digits (eqb-true (length digits) (2 * size) (not-false _ fits)) in
    omega (arith, count)
