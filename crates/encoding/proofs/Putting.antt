-- A line while it is put together: its digits, one byte more, and the sum of the bytes so far.
use mathlib.Core.Path.{◌≡◌, refl, sym, ap, ◌∙◌}
use mathlib.Core.List.{List, [], ◌∷◌, ◌++◌}
use Prim.Native.Nat.{ℕ, ◌+◌, ◌-◌, ◌*◌, ◌/◌, ◌%◌, ◌≤◌, ◌<◌}
use native.Mathlib.Nat.{add-zero}
use native.Mathlib.Numerals.{add-one}
use native.Mathlib.Omega.{arith}
use lib.ListN.{length, get_or, take, set}
use lib.Seq.{length-take-le, take-suc, take_all}
use Rattle.general.specs.Lists.{total, over}
use Rattle.general.proofs.WritingLaws.{over_none, over-more, over-one}
use Rattle.general.proofs.ListLaws.{total-append}
use Rattle.encoding.specs.Encode.{digit_of, hex_of, sum_byte, with_sum, line_of}
use Rattle.encoding.specs.Inputs.{PutInput}
use Rattle.encoding.proofs.HexBack.{hex-length}

-- The digits of two lists of bytes, one behind the other, are those of the first and then those of the second.
hex-append : (xs ys : List ℕ) → hex_of (xs ++ ys) ≡ hex_of xs ++ hex_of ys
unfolding hex_of
hex-append [] ys = refl
hex-append (x ∷ xs) ys = ap (λ (digits : List ℕ). digit_of (x / 16) ∷ digit_of (x % 16) ∷ digits) (hex-append xs ys)

-- One store writes one entry.
one_store : (line : List ℕ) (at v : ℕ) → at < length line → set line at v ≡ over line at (v ∷ [])
one_store line at v room =
    ap (λ (l : List ℕ). set l at v) (over_none line at) ∙ rw add-zero at (over-one line at [] (omega arith) v (omega arith))

-- Two stores, one behind the other, write two entries.
pub two-stores : (line : List ℕ) (at first second : ℕ) → at + 2 ≤ length line
    → set (set line at first) (at + 1) second ≡ over line at (first ∷ second ∷ [])
two-stores line at first second room =
    ap (λ (l : List ℕ). set l (at + 1) second) (one_store line at first (omega arith))
    ∙ over-one line at (first ∷ []) (omega arith) second (omega arith)

-- so the two digits of a byte are those of a list of that byte alone.
pub byte_put : (line : List ℕ) (at byte first second : ℕ) → at + 2 ≤ length line
    → first ≡ digit_of (byte / 16) → second ≡ digit_of (byte % 16)
    → set (set line at first) (at + 1) second ≡ over line at (hex_of (byte ∷ []))
unfolding hex_of
byte_put line at byte first second room first-is second_is =
    two-stores line at first second room ∙ rw (first-is, second_is)

-- A line while it is put together: the digits of the first i bytes stand at its start, in front of what it held, and they are summed.
pub record Put (before line bytes : List ℕ) (sum i : ℕ) : Type 0 where
  pub input : PutInput (length bytes) (length before)
  pub within : i ≤ length bytes
  pub so_far : line ≡ over before 0 (hex_of (take i bytes))
  pub summed : sum ≡ total (take i bytes)
  pub small : sum ≤ 255 * i

-- Nothing is put yet.
pub put-none : {before bytes : List ℕ} → PutInput (length bytes) (length before) → Put before before bytes 0 0
unfolding hex_of total
put-none {before} input =
    record { input = input; within = omega arith; so_far = over_none before 0; summed = refl; small = omega arith }

module _ {before line bytes : List ℕ} {sum i : ℕ} (part : Put before line bytes sum i) where
  digits : length (hex_of (take i bytes)) ≡ 2 * i
  digits = omega (arith, hex-length (take i bytes), length-take-le i bytes (omega (arith, part.input)))

  room : 0 + length (hex_of (take i bytes)) ≤ length before
  room = omega (arith, digits, part.input)

  -- The digits of one byte more behind the others are those of all these bytes.
  next : (byte : ℕ) → over line (2 * i) (hex_of (byte ∷ [])) ≡ over before 0 (hex_of (take i bytes ++ (byte ∷ [])))
  next byte =
      let place : 2 * i ≡ 0 + length (hex_of (take i bytes)) = omega (arith, digits) in
      rw (part.so_far, place, hex-append (take i bytes) (byte ∷ []))
      (over-more before 0 (hex_of (take i bytes)) room (hex_of (byte ∷ [])))

  -- One byte more
  pub put-more : (now : List ℕ) → i < length bytes → get_or bytes i 0 < 256 → now ≡ over line (2 * i) (hex_of (get_or bytes i 0 ∷ []))
      → Put before now bytes (sum + get_or bytes i 0) (i + 1)
  unfolding total
  put-more now more byte now-is =
      let longer : take (i + 1) bytes ≡ take i bytes ++ (get_or bytes i 0 ∷ []) =
      rw add-one (take-suc bytes i 0 (omega (arith, part.input))) in
      record {
        input = part.input;
        within = omega arith;
        so_far = rw longer (now-is ∙ next (get_or bytes i 0));
        summed = rw longer (omega (arith, part.summed, total-append (take i bytes) (get_or bytes i 0 ∷ [])));
        small = omega arith;
      }

  -- and the sum byte behind them all.
  pub put_all : (now : List ℕ) → length bytes ≤ i → now ≡ over line (2 * length bytes) (hex_of ((256 - sum % 256) % 256 ∷ []))
      → now ≡ over before 0 (line_of bytes)
  unfolding line_of with_sum sum_byte
  put_all now end now-is =
      let last : length bytes ≡ i = omega arith in
      let whole : bytes ≡ take i bytes = sym (take_all i bytes (omega arith)) in
      rw (whole, ← part.summed) (rw last at now-is ∙ next ((256 - sum % 256) % 256))
