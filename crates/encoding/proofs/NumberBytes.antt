-- Numbers while their bytes are written or read, the highest byte first.
use mathlib.Core.Path.{◌≡◌, refl, ap, ◌∙◌}
use mathlib.Core.List.{List, [], ◌∷◌, ◌++◌, append-nil}
use Prim.Native.Nat.{ℕ, suc, ◌+◌, ◌-◌, ◌*◌, ◌/◌, ◌%◌, ◌^◌, ◌≤◌, ◌<◌}
use native.Mathlib.Numerals.{add-one}
use native.Mathlib.Omega.{arith}
use lib.ListN.{length, take, get_or, set, length-append, length-set}
use lib.Pow.{pow-add, pow_mono}
use lib.Seq.{take-suc, take-suc-set, append_snoc}
use Rattle.frames.specs.Line.{capacity}
use Rattle.encoding.specs.declared.Frame.{Frame}
use Rattle.encoding.specs.Bytes.{big_endian, number_in}
use Rattle.encoding.specs.Inputs.{held}
use Rattle.encoding.proofs.NumberBack.{big-endian-length}

-- A number of `width` bytes behind the first `count` bytes of a frame that held `before`: `left` bytes are still to be written, from
-- place `at` on.
pub record Appending (before bytes : List ℕ) (count width number at left : ℕ) : Type 0 where
  pub long : length bytes ≡ capacity
  pub place : at + left ≡ count + width
  pub room : count + width ≤ capacity
  pub narrow : left ≤ 4
  pub so_far : take at bytes ++ big_endian left number ≡ take count before ++ big_endian width number

module _ {before bytes : List ℕ} {count width number at left : ℕ} (part : Appending before bytes count width number at left) where
  -- One byte more is written, the highest of those that are left.
  pub appended-more : 0 < left
      → Appending before (set bytes at (number / 2 ^ (8 * (left - 1)) % 256)) count width number (at + 1) (left - 1)
  unfolding big_endian
  appended-more more =
      let some : left ≡ suc (left - 1) = omega arith in
      let byte = number / 2 ^ (8 * (left - 1)) % 256 in
      record {
        long = length-set bytes at byte ∙ part.long;
        place = omega arith;
        room = omega arith;
        narrow = omega arith;
        so_far =
            rw (add-one, take-suc-set bytes at byte (omega arith), append_snoc (take at bytes) byte (big_endian (left - 1) number))
            (rw some at part.so_far);
      }

  -- Nothing is left: the frame has the whole number.
  pub appended-all : left ≡ 0 → take at bytes ≡ take count before ++ big_endian width number
  unfolding big_endian
  appended-all none = rw (none, append-nil) at part.so_far

-- The number of one byte more
number-snoc : (bytes : List ℕ) (byte : ℕ) → number_in (bytes ++ (byte ∷ [])) ≡ number_in bytes * 256 + byte
unfolding number_in
number-snoc [] byte = omega arith
number-snoc (b ∷ bytes) byte =
    let n = length bytes in
    let longer : 8 * length (bytes ++ (byte ∷ [])) ≡ 8 * n + 8 = omega (arith, length-append bytes (byte ∷ [])) in
    rw (longer, pow-add 2 (8 * n) 8) (omega (arith, number-snoc bytes byte))

-- A number in few bytes, of which the first i have been read
pub record Counting (bytes : List ℕ) (number i : ℕ) : Type 0 where
  pub narrow : length bytes ≤ 4
  pub within : i ≤ length bytes
  pub so_far : number ≡ number_in (take i bytes)
  pub small : number < 2 ^ (8 * i)

-- Nothing is read yet.
pub counted_none : {bytes : List ℕ} → length bytes ≤ 4 → Counting bytes 0 0
unfolding number_in
counted_none narrow = record { narrow = narrow; within = omega arith; so_far = refl; small = omega arith }

module _ {bytes : List ℕ} {number i : ℕ} (part : Counting bytes number i) where
  -- One byte more is read.
  pub counted-more : i < length bytes → get_or bytes i 0 < 256 → Counting bytes (number * 256 + get_or bytes i 0) (i + 1)
  counted-more more byte =
      record {
        narrow = part.narrow;
        within = omega arith;
        so_far = rw (add-one, take-suc bytes i 0 more, number-snoc, ← part.so_far) refl;
        small = rw (eight-more, pow-add 2 (8 * i) 8) (omega arith);
      }
    where
      eight-more : 8 * (i + 1) ≡ 8 * i + 8
      eight-more = omega arith

  -- What is read of a number whose bytes are not all read has 3 bytes at most.
  pub counted-small : i < length bytes → number < 2 ^ 24
  counted-small more = omega (arith, pow_mono {i = 8 * i} {j = 24} (omega arith))

-- A frame that has these bytes and no more
abbrev pub Has : Frame → List ℕ → Type 0
Has frame bytes = (held frame ≡ bytes) × (frame.count ≡ length bytes)

-- A frame that is another one with a number behind what that has
abbrev pub Longer : Frame → Frame → ℕ → ℕ → Type 0
Longer next frame width number = (held next ≡ held frame ++ big_endian width number) × (next.count ≡ frame.count + width)

-- has that one's bytes and the number's.
pub has_more : (frame next : Frame) (bytes : List ℕ) (width number : ℕ) → Has frame bytes → Longer next frame width number
    → Has next (bytes ++ big_endian width number)
has_more frame next bytes width number had more = (
  more.0 ∙ ap (λ (front : List ℕ). front ++ big_endian width number) had.0,
  omega (arith, length-append bytes (big_endian width number), big-endian-length width number),
)

-- A number below 256 in one byte is that byte.
pub one_byte : (v : ℕ) → v < 256 → big_endian 1 v ≡ v ∷ []
unfolding big_endian
one_byte v h = ap (λ (byte : ℕ). byte ∷ []) (omega arith)

pub has-byte : (frame next : Frame) {bytes : List ℕ} (v : ℕ) → v < 256 → Has frame bytes → Longer next frame 1 v
    → Has next (bytes ++ (v ∷ []))
has-byte frame next {bytes} v h had more = rw (one_byte v h) at (has_more frame next bytes 1 v had more)
