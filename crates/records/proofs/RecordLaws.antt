-- Which tests of a record refuse it, and what it decodes to then and otherwise.
use Rattle.std.specs.Prelude.{Ok, Err, ok_or}
use mathlib.Core.Path.{◌≡◌, refl, sym, ap, ◌∙◌}
use mathlib.Core.Bool.{Bool, true, false, or-true}
use mathlib.Core.List.{List, [], ◌∷◌}
use Prim.Native.Nat.{ℕ, ◌+◌, ◌-◌, ◌*◌, ◌/◌, ◌%◌, ◌<◌}
use native.Mathlib.Omega.{arith}
use lib.ListN.{length, take, drop, get_or, length-drop}
use lib.Seq.{take_all}
use borrow.Author.Tests.{eq-eqb, ne_eqb}
use Rattle.refusal.specs.declared.Cause.{Cause}
use Rattle.refusal.specs.Checks.{◌↝◌, verdict, answer}
use Rattle.refusal.proofs.Checks.{none-fails}
use Rattle.refusal.proofs.Answers.{answer-given}
use Rattle.frames.specs.declared.Decoded.{Decoded}
use Rattle.frames.specs.Hex.{all_digits, bytes_of}
use Rattle.frames.specs.Line.{text_fails, capacity, padded, kept, decoded_digits}
use Rattle.frames.proofs.HexLaws.{bytes-length}
use Rattle.frames.proofs.DecodedLaws.{other-character, read-answer}
use Rattle.encoding.proofs.HexBack.{Bytes, bytes_small}
use Rattle.records.specs.Record.{digits_in, other_bytes, longest_record, size_fails, record_fails, record_check, decoded_record}

-- The first byte of digits is below 256, if they are digits;
first_small : (bytes : List ℕ) → Bytes bytes → get_or bytes 0 0 < 256
first_small [] small = omega arith
first_small (byte ∷ bytes) small = small.0

-- it is the first that an array keeps.
first-kept : (bytes : List ℕ) → get_or (padded (take capacity bytes)) 0 0 ≡ get_or bytes 0 0
unfolding padded
first-kept [] = refl
first-kept (byte ∷ bytes) = refl

-- What is lent of a text behind its colon is all that stands there.
pub lent-digits : (text : List ℕ) → take (length text - 1) (drop 1 text) ≡ digits_in text
lent-digits text = take_all (length text - 1) (drop 1 text) (omega (arith, length-drop 1 text))

module _ (text : List ℕ) where
  -- A record that fails is refused, for whichever reason.
  refused : record_fails text ≡ true → Err Cause.Record ≡ decoded_record text
  unfolding decoded_record record_check
  refused e = rw e

  size-fails : size_fails (digits_in text) ≡ true → record_fails text ≡ true
  unfolding record_fails
  size-fails e = rw (e, or-true)

  text-fails : text_fails (digits_in text) ≡ true → record_fails text ≡ true
  unfolding record_fails
  text-fails e = rw (e, or-true)

  -- It lacks its colon,
  pub colon-refused : (get_or text 0 0 ≡ 58 → ⊥) → Err Cause.Record ≡ decoded_record text
  unfolding record_fails
  colon-refused other = refused (rw (ne_eqb _ _ other))

  -- it does not have the length that its length byte says,
  other-size : (length (digits_in text) ≡ 2 * (get_or (bytes_of (digits_in text)) 0 0 + other_bytes) → ⊥)
      → size_fails (digits_in text) ≡ true
  unfolding size_fails
  other-size other = rw (ne_eqb _ _ other)

  -- since its digits are not even in number,
  pub odd_refused : length text % 2 ≡ 0 → Err Cause.Record ≡ decoded_record text
  odd_refused even = refused (size-fails (other-size (λ size. omega (arith, length-drop 1 text))))

  -- or more than the largest length byte says,
  pub long-fails : longest_record < length text → record_fails text ≡ true
  long-fails long = go (all_digits (digits_in text)) refl
    where
      go : (digits : Bool) → all_digits (digits_in text) ≡ digits → record_fails text ≡ true
      go true e =
          let small = first_small (bytes_of (digits_in text)) (bytes_small (digits_in text) e) in
          size-fails (other-size (λ size. omega (arith, length-drop 1 text, small)))
      go false e = text-fails (other-character _ e)

  pub long-refused : longest_record < length text → Err Cause.Record ≡ decoded_record text
  long-refused long = refused (long-fails long)

  -- What is left of a record that has its colon and an even number of digits, not too many
  module _ (odd : length text % 2 ≡ 1) where
    count-is : length (bytes_of (digits_in text)) * 2 ≡ length (digits_in text)
    count-is =
        let digits = digits_in text in
        omega (arith, bytes-length (length digits / 2) digits (omega (arith, length-drop 1 text)), length-drop 1 text)

    -- Digits that are refused fail;
    pub digits-refused : {cause : Cause} → ok_or (decoded_digits (digits_in text)) Cause.Record ≡ Err cause → Err cause ≡ decoded_record text
    digits-refused {cause} e = go (text_fails (digits_in text)) refl
      where
        told : Err cause ≡ answer (verdict (text_fails (digits_in text) ↝ Cause.Record ∷ [])) (kept (digits_in text))
        told = sym e ∙ read-answer (digits_in text) Cause.Record

        go : (fails : Bool) → text_fails (digits_in text) ≡ fails → Err cause ≡ decoded_record text
        go true f = rw f at told ∙ refused (text-fails f)
        go false f = let z : ◌≡◌ {A = ℕ} 0 1 = let other = rw f at told in cc in absurd (omega arith)

    -- of others as many bytes are there as an array holds, and the first is the length byte.
    module _ {held : Decoded} (given : ok_or (decoded_digits (digits_in text)) Cause.Record ≡ Ok held) where
      sound-digits : (text_fails (digits_in text) ≡ false) × (kept (digits_in text) ≡ held)
      sound-digits =
          let g = answer-given (verdict (text_fails (digits_in text) ↝ Cause.Record ∷ [])) (kept (digits_in text))
          (sym (read-answer (digits_in text) Cause.Record) ∙ given) in
          ((none-fails (text_fails (digits_in text) ↝ Cause.Record ∷ []) g.0).0, g.1)

      same_size : held.count ≡ length (bytes_of (digits_in text))
      same_size = ap (λ (h : Decoded). h.count) (sym sound-digits.1)

      same_first : get_or held.bytes 0 0 ≡ get_or (bytes_of (digits_in text)) 0 0
      same_first = ap (λ (h : Decoded). get_or h.bytes 0 0) (sym sound-digits.1) ∙ first-kept (bytes_of (digits_in text))

      -- Either their number is not the one that the length byte says,
      pub count-refused : (held.count ≡ get_or held.bytes 0 0 + other_bytes → ⊥) → Err Cause.Record ≡ decoded_record text
      count-refused other =
          refused (size-fails (other-size (λ size. other (omega (arith, count-is, same_size, same_first)))))

      -- or it is, and the record is sound.
      passes : get_or text 0 0 ≡ 58 → held.count ≡ get_or held.bytes 0 0 + other_bytes → record_fails text ≡ false
      unfolding record_fails size_fails
      passes colon count =
          let size : length (digits_in text) ≡ 2 * (get_or (bytes_of (digits_in text)) 0 0 + other_bytes) =
          omega (arith, count-is, same_size, same_first) in
          rw (eq-eqb _ _ colon, eq-eqb _ _ size, sound-digits.0)

      pub sound : get_or text 0 0 ≡ 58 → held.count ≡ get_or held.bytes 0 0 + other_bytes → Ok held ≡ decoded_record text
      unfolding decoded_record record_check
      sound colon count = rw (passes colon count, sound-digits.1)
