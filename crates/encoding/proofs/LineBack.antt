-- A frame and its line: each is got back from the other.
use mathlib.Core.Path.{◌≡◌, sym, ap, ◌∙◌}
use mathlib.Core.Bool.{false, true}
use mathlib.Core.List.{List, [], ◌∷◌, ◌++◌}
use Prim.Native.Nat.{ℕ, suc, ◌+◌, ◌-◌, ◌*◌, ◌/◌, ◌%◌, ◌≤◌}
use native.Mathlib.Omega.{arith}
use lib.ListN.{length, take, get_or, length-append}
use lib.Seq.{take_all, take-suc, length-take-le}
use borrow.Author.Tests.{eqb-false, ne_eqb, le-ltb, not-false}
use Rattle.general.proofs.Tests.{neither}
use Rattle.frames.specs.Hex.{all_digits, bytes_of}
use Rattle.frames.specs.Line.{sum_fails, text_fails, longest_line, length_fails, digits_fail, is_empty, line_fails}
use Rattle.frames.proofs.HexLaws.{bytes-length}
use Rattle.frames.proofs.LineLaws.{sound-length}
use Rattle.encoding.specs.Encode.{hex_of, sum_byte, with_sum, line_of}
use Rattle.encoding.proofs.HexBack.{
  Bytes,
  hex-length,
  hex-digits,
  hex-back,
  bytes_small,
  hex-again,
  bytes-append,
  bytes-parts,
}
use Rattle.encoding.proofs.SumBack.{sum-byte-lt, sum_back, sum-again}

-- A frame with its sum byte is one byte longer, and still bytes.
pub with-sum-length : (f : List ℕ) → length (with_sum f) ≡ length f + 1
unfolding with_sum
with-sum-length f = length-append f (sum_byte f ∷ [])

with-sum-small : (f : List ℕ) → Bytes f → Bytes (with_sum f)
unfolding with_sum
with-sum-small f small = bytes-append f (sum_byte f ∷ []) small (sum-byte-lt f, tt)

-- An even number of digits, not too many, is sound.
even-passes : (n : ℕ) → 2 * n ≤ longest_line → length_fails (2 * n) ≡ false
even-passes n high = rw (ne_eqb (2 * n % 2) 1 (omega arith), le-ltb longest_line (2 * n) high)

-- The line of a frame is no longer than the longest.
abbrev pub Short : List ℕ → Type 0
Short f = 2 * (length f + 1) ≤ longest_line

module _ (f : List ℕ) where
  -- A line has two digits for each byte of the frame and for the sum byte.
  pub line-length : length (line_of f) ≡ 2 * (length f + 1)
  unfolding line_of
  line-length = hex-length (with_sum f) ∙ ap (λ n. 2 * n) (with-sum-length f)

  -- The line of a frame is read as the frame with its sum byte.
  pub line-back : Bytes f → bytes_of (line_of f) ≡ with_sum f
  unfolding line_of
  line-back small = hex-back (with_sum f) (with-sum-small f small)

  pub line-digits : Bytes f → all_digits (line_of f) ≡ true
  unfolding line_of
  line-digits small = hex-digits (with_sum f) (with-sum-small f small)

  -- The line of a frame that is not too long is sound.
  pub line-sound : Bytes f → Short f → line_fails (line_of f) ≡ false
  unfolding line_fails digits_fail text_fails
  line-sound small short =
      rw (
        line-length,
        ne_eqb (2 * (length f + 1)) 0 (omega arith),
        even-passes (length f + 1) short,
        line-digits small,
        line-back small,
        sum_back f,
      )

-- What a sound line is the line of
pub record Front (digits : List ℕ) : Type 0 where
  pub frame : List ℕ
  pub small : Bytes frame
  pub short : Short frame
  pub bytes : bytes_of digits ≡ with_sum frame
  pub line : line_of frame ≡ digits

-- Some bytes of which the sum is right are a frame with its sum byte.
pub before-sum : (n : ℕ) (bs : List ℕ) → length bs ≡ suc n → Bytes bs → sum_fails bs ≡ false
    → Bytes (take n bs) × (bs ≡ with_sum (take n bs))
unfolding with_sum
before-sum n bs e small sum =
    let split : bs ≡ take n bs ++ (get_or bs n 0 ∷ []) = sym (take_all (suc n) bs (omega arith)) ∙ take-suc bs n 0 (omega arith) in
    let parts = bytes-parts (take n bs) (get_or bs n 0 ∷ []) (rw split at small) in
    let last = sum-again (take n bs) (get_or bs n 0) parts.1.0 (rw split at sum) in
    (parts.0, split ∙ ap (λ b. take n bs ++ (b ∷ [])) last)

-- A sound line is the line of the frame that is left of its bytes without the last.
pub front : (line : List ℕ) → line_fails line ≡ false → Front line
unfolding line_fails digits_fail text_fails line_of
front line sound =
    let some = neither (is_empty line) (digits_fail line) sound in
    let shape = neither (length_fails (length line)) (text_fails line) some.1 in
    let tests = neither _ (sum_fails (bytes_of line)) shape.1 in
    let digits : all_digits line ≡ true = not-false _ tests.0 in
    let even = sound-length (length line) shape.0 in
    let empty = eqb-false (length line) 0 some.0 in
    let full : 1 ≤ length line = omega arith in
    let n = length line / 2 - 1 in
    let count : length (bytes_of line) ≡ suc n = bytes-length (length line / 2) line even.even ∙ omega arith in
    let split = before-sum n (bytes_of line) count (bytes_small line digits) tests.1 in
    record {
      frame = take n (bytes_of line);
      small = split.0;
      short = rw (length-take-le n (bytes_of line) (omega arith)) (omega arith);
      bytes = split.1;
      line = ap hex_of (sym split.1) ∙ hex-again (length line / 2) line even.even digits;
    }
