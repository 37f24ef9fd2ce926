-- A record's bytes before the sum byte, here its frame, and its text: each is got back from the other.
use mathlib.Core.Path.{◌≡◌, sym, ap, ◌∙◌}
use mathlib.Core.Bool.{false, true, true≢false, not, ◌||◌}
use mathlib.Core.List.{List, [], ◌∷◌}
use Prim.Native.Nat.{ℕ, suc, ◌+◌, ◌*◌, ◌<◌}
use native.Mathlib.Omega.{arith}
use lib.Dec.{eqb}
use lib.ListN.{length, take, get_or, get_or-append}
use borrow.Author.Tests.{eqb-true, eq-eqb, not-false}
use Rattle.general.proofs.Tests.{neither}
use Rattle.frames.specs.Hex.{all_digits, bytes_of}
use Rattle.frames.specs.Line.{sum_fails, text_fails}
use Rattle.frames.proofs.HexLaws.{bytes-length}
use Rattle.encoding.specs.Encode.{hex_of, sum_byte, with_sum, line_of}
use Rattle.encoding.proofs.HexBack.{Bytes, bytes_small, hex-again}
use Rattle.encoding.proofs.SumBack.{sum_back}
use Rattle.encoding.proofs.LineBack.{line-length, line-back, line-digits, before-sum}
use Rattle.records.specs.Record.{bytes_in, other_bytes, size_fails, record_fails}

-- The sum byte stands behind the frame's bytes.
first_byte : (frame : List ℕ) → 0 < length frame → get_or (with_sum frame) 0 0 ≡ get_or frame 0 0
unfolding with_sum
first_byte frame some = get_or-append frame (sum_byte frame ∷ []) 0 0 some

module _ (frame : List ℕ) (small : Bytes frame) where
  -- The text of a frame is read as the frame with its sum byte.
  pub frame_back : bytes_in (58 ∷ line_of frame) ≡ with_sum frame
  frame_back = line-back frame small

  -- It is sound where the first byte says how many bytes follow the head's four.
  pub frame-sound : length frame ≡ get_or frame 0 0 + 4 → record_fails (58 ∷ line_of frame) ≡ false
  unfolding record_fails size_fails text_fails
  frame-sound size =
      let long : 2 * (length frame + 1) ≡ 2 * (get_or frame 0 0 + other_bytes) = omega arith in
      rw (
        line-back frame small,
        line-length frame,
        first_byte frame (omega arith),
        eq-eqb _ _ long,
        line-digits frame small,
        sum_back frame,
      )

-- What a sound record is the text of
pub record RecordFront (text : List ℕ) : Type 0 where
  pub frame : List ℕ
  pub small : Bytes frame
  pub bytes : bytes_in text ≡ with_sum frame
  pub is-text : 58 ∷ line_of frame ≡ text

-- Sound digits behind the colon are those of the bytes without the last.
digits-front : (digits : List ℕ) → size_fails digits ≡ false → text_fails digits ≡ false → RecordFront (58 ∷ digits)
unfolding size_fails text_fails line_of
digits-front digits size text =
    let n = get_or (bytes_of digits) 0 0 + 4 in
    let tests = neither (not (all_digits digits)) (sum_fails (bytes_of digits)) text in
    let sound : all_digits digits ≡ true = not-false _ tests.0 in
    let counted = eqb-true (length digits) (2 * (get_or (bytes_of digits) 0 0 + other_bytes)) (not-false _ size) in
    let count : length (bytes_of digits) ≡ suc n = bytes-length (suc n) digits (omega arith) in
    let split = before-sum n (bytes_of digits) count (bytes_small digits sound) tests.1 in
    record {
      frame = take n (bytes_of digits);
      small = split.0;
      bytes = split.1;
      is-text =
          ap (λ (line : List ℕ). 58 ∷ line) (ap hex_of (sym split.1) ∙ hex-again (suc n) digits (omega arith) sound);
    }

-- A sound record is the text of the frame that is left of its bytes without the last.
pub record-front : (text : List ℕ) → record_fails text ≡ false → RecordFront text
unfolding record_fails
record-front [] sound = absurd (true≢false sound)
record-front (c ∷ digits) sound =
    let tests = neither (not (eqb c 58) || size_fails digits) (text_fails digits) sound in
    let shape = neither (not (eqb c 58)) (size_fails digits) tests.0 in
    let colon = eqb-true c 58 (not-false _ shape.0) in
    rw colon (digits-front digits shape.1 tests.1)
