-- Which tests of a line refuse it, and what it decodes to then and otherwise.
use Rattle.std.specs.Prelude.{Ok, Err, ok_or}
use mathlib.Core.Path.{◌≡◌, sym, ◌∙◌}
use mathlib.Core.Bool.{true, false, or-true}
use mathlib.Core.List.{List}
use Prim.Native.Nat.{ℕ, ◌*◌, ◌/◌, ◌%◌, ◌≤◌, ◌<◌}
use native.Mathlib.Omega.{arith}
use lib.Dec.{ltb, eqb}
use lib.ListN.{length}
use borrow.Author.Tests.{lt-ltb, ltb-false, eqb-false}
use Rattle.general.proofs.Tests.{neither}
use Rattle.refusal.specs.declared.Cause.{Cause}
use Rattle.refusal.specs.Checks.{verdict}
use Rattle.refusal.proofs.Checks.{none-fails}
use Rattle.refusal.proofs.Answers.{answer-refused, answer-given}
use Rattle.frames.specs.declared.Decoded.{Decoded}
use Rattle.frames.specs.Hex.{bytes_of}
use Rattle.frames.specs.Line.{
  text_fails,
  longest_line,
  length_fails,
  digits_fail,
  is_empty,
  line_fails,
  line_checks,
  capacity,
  kept,
  decoded_digits,
  decoded,
}
use Rattle.frames.proofs.HexLaws.{bytes-length}
use Rattle.frames.proofs.DecodedLaws.{whole, kept_whole, read-answer}

pub record SoundLength (digits : ℕ) : Type 0 where
  pub even : digits ≡ 2 * (digits / 2)
  pub short : digits ≤ longest_line

pub sound-length : (digits : ℕ) → length_fails digits ≡ false → SoundLength digits
sound-length digits e =
    let parts = neither (eqb (digits % 2) 1) (ltb longest_line digits) e in
    let odd = eqb-false (digits % 2) 1 parts.0 in
    record { even = omega arith; short = ltb-false _ _ parts.1 }

-- A line that is longer than the longest fails, whatever stands in it.
pub long-fails : (line : List ℕ) → longest_line < length line → line_fails line ≡ true
unfolding line_fails digits_fail
long-fails line h = rw (lt-ltb _ _ h, or-true, or-true)

-- A line that is not refused is not empty.
pub sound-some : (line : List ℕ) → line_fails line ≡ false → is_empty line ≡ false
unfolding line_fails
sound-some line e = (neither (is_empty line) (digits_fail line) e).0

-- The bytes of a line that is not refused fit an array.
pub bytes-short : (line : List ℕ) → line_fails line ≡ false → length (bytes_of line) ≤ capacity
unfolding line_fails digits_fail
bytes-short line e =
    let shape = (neither (length_fails (length line)) (text_fails line) (neither (is_empty line) (digits_fail line) e).1).0 in
    let sound = sound-length (length line) shape in
    omega (arith, bytes-length (length line / 2) line sound.even, sound.short)

module _ (line : List ℕ) where
  refused : line_fails line ≡ true → Err Cause.Line ≡ decoded line
  unfolding decoded line_checks
  refused e = rw e

  -- A line that is empty or of a wrong length is refused, whatever stands in it.
  pub empty-refused : is_empty line ≡ true → Err Cause.Line ≡ decoded line
  unfolding line_fails
  empty-refused e = refused (rw e)

  pub length-refused : length_fails (length line) ≡ true → Err Cause.Line ≡ decoded line
  unfolding line_fails digits_fail
  length-refused e = refused (rw (e, or-true))

  -- Any other is what its digits are.
  pub text-decides : is_empty line ≡ false → length_fails (length line) ≡ false → ok_or (decoded_digits line) Cause.Line ≡ decoded line
  unfolding decoded line_checks line_fails digits_fail
  text-decides some l = rw (some, l) (read-answer line Cause.Line)

  -- What `decode` tells: a line that it refuses fails its checks, and one that it does not passes them and is there whole.
  pub line-refused : (cause : Cause) → decoded line ≡ Err cause → verdict (line_checks line) ≡ Err cause
  unfolding decoded
  line-refused cause e = answer-refused _ (kept line) e

  module _ (held : Decoded) (e : decoded line ≡ Ok held) where
    pub line-passed : verdict (line_checks line) ≡ Ok tt
    unfolding decoded
    line-passed = (answer-given (verdict (line_checks line)) (kept line) e).0

    pub held_whole : held ≡ whole line
    unfolding decoded line_checks
    held_whole =
        let given = answer-given (verdict (line_checks line)) (kept line) e in
        sym given.1 ∙ kept_whole line (bytes-short line (none-fails (line_checks line) given.0).0)
