-- Document 02, A2, refusal 21: "a record lacks its colon, has wrong digits or sum, or does not have the length its own length byte says".
use Rattle.std.specs.Prelude.{Bool, not, ◌||◌, List, [], ◌∷◌, ℕ, ◌+◌, ◌*◌, eqb, length, drop, get_or, Result}
use Rattle.refusal.specs.declared.Cause.{Cause}
use Rattle.refusal.specs.Checks.{Check, ◌↝◌, verdict, answer}
use Rattle.frames.specs.declared.Decoded.{Decoded}
use Rattle.frames.specs.Hex.{bytes_of}
use Rattle.frames.specs.Line.{text_fails, kept}

-- What stands behind the colon
abbrev pub digits_in : List ℕ → List ℕ
digits_in text = drop 1 text

-- The bytes that it holds
abbrev pub bytes_in : List ℕ → List ℕ
bytes_in text = bytes_of (digits_in text)

-- How many bytes a record has beside its data: length, address (2), type and sum
abbrev pub other_bytes : ℕ
other_bytes = 5

-- How many characters a record has at most: a colon and two digits a byte, of which there are up to 255 beside the others
abbrev pub longest_record : ℕ
longest_record = 1 + 2 * (255 + other_bytes)

-- "does not have the length its own length byte says", which is its first; two digits a byte
unfoldable pub size_fails : List ℕ → Bool
size_fails digits = not (eqb (length digits) (2 * (get_or (bytes_of digits) 0 0 + other_bytes)))

-- 58 is the colon.
unfoldable pub record_fails : List ℕ → Bool
record_fails text = not (eqb (get_or text 0 0) 58) || size_fails (digits_in text) || text_fails (digits_in text)

unfoldable pub record_check : List ℕ → Check
record_check text = record_fails text ↝ Cause.Record

-- What the call `decode_record` answers: the bytes of a sound record, as many as an array holds
unfoldable pub decoded_record : List ℕ → Result Decoded Cause
decoded_record text = answer (verdict (record_check text ∷ [])) (kept (digits_in text))
