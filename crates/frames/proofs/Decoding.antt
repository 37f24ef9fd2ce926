-- What is known of digits once their first i bytes have been read: how they start, go on and end.
use Rattle.std.specs.Prelude.{Some, None}
use mathlib.Core.Path.{◌≡◌, refl, sym, ap, ◌∙◌}
use mathlib.Core.Logic.{◌⊎◌, ⊎_elim}
use mathlib.Core.Bool.{true, false}
use mathlib.Core.List.{List, [], ◌∷◌, ◌++◌}
use Prim.Native.Nat.{ℕ, zero, suc, ◌+◌, ◌-◌, ◌*◌, ◌/◌, ◌%◌, ◌≤◌, ◌<◌}
use native.Mathlib.Nat.{add-zero, sub-zero, zero-sub, suc-sub-suc}
use native.Mathlib.Omega.{arith}
use lib.ListN.{length, get_or, take, drop, set, replicate, length-take, length-set}
use lib.Seq.{get_or-take, get_or-drop, take_all}
use borrow.Author.Tests.{eq-eqb, ne_eqb}
use Rattle.std.proofs.lemmas.List.{drop-drop}
use Rattle.general.specs.Lists.{total, over}
use Rattle.general.proofs.WritingLaws.{over-start, over-next}
use Rattle.frames.specs.Hex.{all_digits, bytes_of}
use Rattle.frames.specs.Inputs.{EvenDigits}
use Rattle.frames.specs.Line.{sum_fails, capacity, padded, decoded_digits}
use Rattle.frames.proofs.HexLaws.{Digits, bytes-length, next-byte, next-sound, high-unsound, low-unsound}
use Rattle.frames.proofs.DecodedLaws.{kept_bytes, none-read, some-read, other-character, wrong-sum, sound-text}

-- Zeros without some of them are zeros.
fewer-zeros : (m n : ℕ) → drop {A = ℕ} n (replicate m 0) ≡ replicate (m - n) 0
fewer-zeros m zero = rw sub-zero
fewer-zeros zero (suc n) = rw zero-sub
fewer-zeros (suc m) (suc n) = rw suc-sub-suc (fewer-zeros m n)

-- Bytes with zeros behind them are bytes written over zeros, and so the next is stored.
over_zeros : (xs : List ℕ) → over (replicate capacity 0) 0 xs ≡ padded xs
unfolding padded
over_zeros xs = over-start (replicate capacity 0) xs ∙ ap (λ (l : List ℕ). xs ++ l) (fewer-zeros capacity (length xs))

padded-next : (xs : List ℕ) (i : ℕ) → i < length xs → length xs ≤ capacity
    → set (padded (take i xs)) i (get_or xs i 0) ≡ padded (take (i + 1) xs)
padded-next xs i h room =
    rw (← over_zeros (take i xs), ← over_zeros (take (i + 1) xs)) (over-next (replicate capacity 0) xs i 0 h room)

drop-next : (xs : List ℕ) (i : ℕ) {x : ℕ} {after : List ℕ} → drop i xs ≡ x ∷ after → drop (i + 1) xs ≡ after
drop-next xs i e = sym (drop-drop 1 i xs) ∙ ap (λ (l : List ℕ). drop 1 l) e

empty : (xs : List ℕ) → length xs ≡ 0 → xs ≡ []
empty [] e = refl
empty (x ∷ xs) e = absurd (omega arith)

-- The first i bytes, made of sound digits, are summed, and stored as far as there is room; the rest of the digits has the other bytes.
pub record BytesRead (digits rest bytes : List ℕ) (sum i : ℕ) : Type 0 where
  pub input : EvenDigits (length digits)
  pub within : length digits ≡ 2 * i + length rest
  pub long : length bytes ≡ capacity
  pub sound : all_digits digits ≡ all_digits rest
  pub left : drop i (bytes_of digits) ≡ bytes_of rest
  pub stored : bytes ≡ padded (take i (kept_bytes digits))
  pub summed : total (bytes_of digits) ≡ sum + total (bytes_of rest)
  pub small : sum ≤ 255 * i

pub start : (digits : List ℕ) {rest : List ℕ} → rest ≡ digits → EvenDigits (length digits) → BytesRead digits rest (replicate capacity 0) 0 0
unfolding padded
start digits {rest} e fits =
    rw e (record {
      input = fits;
      within = omega arith;
      long = refl;
      sound = refl;
      left = refl;
      stored = refl;
      summed = omega arith;
      small = omega arith;
    })

module _ {digits rest bytes : List ℕ} {sum i : ℕ} (so_far : BytesRead digits rest bytes sum i) where
  byte-count : length (bytes_of digits) ≡ length digits / 2
  byte-count = bytes-length (length digits / 2) digits so_far.input.even

  kept-short : length (kept_bytes digits) ≤ capacity
  kept-short = omega (arith, length-take capacity (bytes_of digits))

  module _ {after : List ℕ} {high low : ℕ} (next : Digits rest after high low) where
    more : length rest ≡ 2 + length after
    more = ap length next.rest_is ∙ omega arith

    byte_at : get_or (bytes_of digits) i 0 ≡ 16 * high + low
    byte_at =
        let first = get_or-drop i (bytes_of digits) 0 0 in
        sym (rw add-zero at first) ∙ ap (λ (l : List ℕ). get_or l 0 0) (so_far.left ∙ next-byte next)

    -- The next byte is stored where there is room, and past the room nothing is missing.
    stored_more : i < capacity → set bytes i (16 * high + low) ≡ padded (take (i + 1) (kept_bytes digits))
    stored_more room =
        let short : i < length (kept_bytes digits) = omega (arith, length-take capacity (bytes_of digits), byte-count, more) in
        let byte : get_or (kept_bytes digits) i 0 ≡ 16 * high + low = get_or-take capacity (bytes_of digits) i 0 room ∙ byte_at in
        rw (so_far.stored, ← byte) (padded-next (kept_bytes digits) i short kept-short)

    stored-all : capacity ≤ i → bytes ≡ padded (take (i + 1) (kept_bytes digits))
    stored-all full =
        let all : length (kept_bytes digits) ≤ i = omega (arith, kept-short) in
        so_far.stored ∙ rw (take_all i (kept_bytes digits) all, take_all (i + 1) (kept_bytes digits) (omega arith))

    module _ (h : high < 16) (l : low < 16) where
      -- A turn, whatever it stores
      turn : {now : List ℕ} → length now ≡ capacity → now ≡ padded (take (i + 1) (kept_bytes digits))
          → BytesRead digits after now (sum + (16 * high + low)) (i + 1)
      unfolding total
      turn full is =
          record {
            input = so_far.input;
            within = omega (arith, more);
            long = full;
            sound = so_far.sound ∙ next-sound next h l;
            left = drop-next (bytes_of digits) i (so_far.left ∙ next-byte next);
            stored = is;
            summed = omega (arith, ap total (next-byte next));
            small = omega arith;
          }

      pub step : i < capacity → BytesRead digits after (set bytes i (16 * high + low)) (sum + (16 * high + low)) (i + 1)
      step room = turn (length-set bytes i _ ∙ so_far.long) (stored_more room)

      pub step-full : capacity ≤ i → BytesRead digits after bytes (sum + (16 * high + low)) (i + 1)
      step-full full = turn so_far.long (stored-all full)

    pub broken : (16 ≤ high) ⊎ (16 ≤ low) → None ≡ decoded_digits digits
    broken bad =
        let other = so_far.sound ∙ ⊎_elim (high-unsound next) (low-unsound next) bad in
        none-read digits (other-character digits other)

  module _ (end : length rest < 2) where
    nothing_left : rest ≡ []
    nothing_left = empty rest (omega (arith, so_far.within, so_far.input.even))

    all_sound : all_digits digits ≡ true
    unfolding all_digits
    all_sound = so_far.sound ∙ ap all_digits nothing_left

    all-summed : total (bytes_of digits) ≡ sum
    unfolding bytes_of total
    all-summed = omega (arith, ap (λ (l : List ℕ). total (bytes_of l)) nothing_left)

    all-stored : padded (kept_bytes digits) ≡ bytes
    all-stored =
        let short : length (kept_bytes digits) ≤ i = omega (arith, length-take capacity (bytes_of digits), byte-count) in
        sym (so_far.stored ∙ rw (take_all i (kept_bytes digits) short))

    sum-right : sum % 256 ≡ 0 → sum_fails (bytes_of digits) ≡ false
    unfolding sum_fails
    sum-right h = rw (all-summed, eq-eqb _ _ h)

    sum-fails : (sum % 256 ≡ 0 → ⊥) → sum_fails (bytes_of digits) ≡ true
    unfolding sum_fails
    sum-fails h = rw (all-summed, ne_eqb _ _ h)

    pub sum-wrong : (sum % 256 ≡ 0 → ⊥) → None ≡ decoded_digits digits
    sum-wrong h = none-read digits (wrong-sum digits (sum-fails h))

    pub finished : sum % 256 ≡ 0 → Some (record { bytes = bytes; count = length digits / 2 }) ≡ decoded_digits digits
    finished h = rw (← byte-count, ← all-stored) (some-read digits (sound-text digits all_sound (sum-right h)))
