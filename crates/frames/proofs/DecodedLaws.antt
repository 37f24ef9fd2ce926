-- What is read from digits, by whether they fail: nothing, or their bytes.
use Rattle.std.specs.Prelude.{Some, None, ok_or}
use mathlib.Core.Path.{◌≡◌, refl}
use mathlib.Core.Bool.{Bool, true, false, cond, or-true}
use mathlib.Core.List.{List, [], ◌∷◌}
use Prim.Native.Nat.{ℕ, ◌≤◌}
use lib.ListN.{length, take}
use lib.Seq.{take_all}
use Rattle.refusal.specs.declared.Cause.{Cause}
use Rattle.refusal.specs.Checks.{◌↝◌, verdict, answer}
use Rattle.frames.specs.declared.Decoded.{Decoded}
use Rattle.frames.specs.Hex.{all_digits, bytes_of}
use Rattle.frames.specs.Line.{sum_fails, text_fails, capacity, padded, kept, decoded_digits}

-- The bytes of digits that an array keeps, and what is kept of digits where there is room for all
abbrev pub kept_bytes : List ℕ → List ℕ
kept_bytes digits = take capacity (bytes_of digits)

abbrev pub whole : List ℕ → Decoded
whole digits = record { bytes = padded (bytes_of digits); count = length (bytes_of digits) }

module _ (digits : List ℕ) where
  pub kept_whole : length (bytes_of digits) ≤ capacity → kept digits ≡ whole digits
  kept_whole room = rw (take_all capacity (bytes_of digits) room)

  -- Of digits that fail nothing is read, and of others what is kept of them.
  pub none-read : text_fails digits ≡ true → None ≡ decoded_digits digits
  unfolding decoded_digits
  none-read e = rw e

  pub some-read : text_fails digits ≡ false → Some (kept digits) ≡ decoded_digits digits
  unfolding decoded_digits
  some-read e = rw e

  -- The tests of digits that refuse them, and those that together accept them
  pub other-character : all_digits digits ≡ false → text_fails digits ≡ true
  unfolding text_fails
  other-character e = rw e

  pub wrong-sum : sum_fails (bytes_of digits) ≡ true → text_fails digits ≡ true
  unfolding text_fails
  wrong-sum e = rw (e, or-true)

  pub sound-text : all_digits digits ≡ true → sum_fails (bytes_of digits) ≡ false → text_fails digits ≡ false
  unfolding text_fails
  sound-text d s = rw (d, s)

  -- With a cause where nothing is read, it is an answer by one check.
  pub read-answer : (cause : Cause) → ok_or (decoded_digits digits) cause ≡ answer (verdict (text_fails digits ↝ cause ∷ [])) (kept digits)
  unfolding decoded_digits
  read-answer cause = either (text_fails digits)
    where
      either : (fails : Bool) → ok_or (cond fails None (Some (kept digits))) cause ≡ answer (verdict (fails ↝ cause ∷ [])) (kept digits)
      either true = refl
      either false = refl
