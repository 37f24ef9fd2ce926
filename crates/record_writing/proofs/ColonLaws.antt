-- A record while it is put into its buffer: the colon, and behind it the line.
use mathlib.Core.Path.{◌≡◌, ap, ◌∙◌}
use mathlib.Core.List.{List, [], ◌∷◌, append-nil}
use Prim.Native.Nat.{ℕ, suc, ◌+◌, ◌-◌, ◌≤◌}
use native.Mathlib.Nat.{le_refl}
use native.Mathlib.Omega.{arith}
use lib.ListN.{length, take, drop, set, drop_of_length-le}
use lib.Seq.{take_all}
use borrow.Rule.Slice.PartMut.{put_mid}
use Rattle.general.specs.Lists.{over}
use Rattle.general.proofs.WritingLaws.{over-start, over-length}

-- What is lent for the line: all of the buffer but its first place, where the colon stands
abbrev pub behind : List ℕ → List ℕ
behind buffer = take (length (set buffer 0 58) - 1) (drop 1 (set buffer 0 58))

behind-is : (first : ℕ) (rest : List ℕ) → behind (first ∷ rest) ≡ rest
behind-is first rest =
    let one_less : suc (length rest) - 1 ≡ length rest = omega arith in
    rw one_less (take_all (length rest) rest (le_refl _))

pub behind-length : (buffer : List ℕ) → 1 ≤ length buffer → length (behind buffer) + 1 ≡ length buffer
behind-length [] h = absurd (omega arith)
behind-length (first ∷ rest) h = rw (behind-is first rest) (omega arith)

-- The line behind the colon, put back where it was lent from, is the whole record,
pub colon-put : (buffer line part : List ℕ) → 1 + length line ≤ length buffer → part ≡ over (behind buffer) 0 line
    → put_mid 1 (length (set buffer 0 58) - 1) (set buffer 0 58) part ≡ over buffer 0 (58 ∷ line)
colon-put [] line part room part-is = absurd (omega arith)
colon-put (first ∷ rest) line part room part-is =
    let one_less : suc (length rest) - 1 ≡ length rest = omega arith in
    rw (
      one_less,
      drop_of_length-le rest {i = length rest} (le_refl _),
      append-nil,
      part-is,
      behind-is first rest,
      over-start rest line,
      over-start (first ∷ rest) (58 ∷ line),
    )

-- and the buffer keeps its length.
pub colon-length : (buffer line part : List ℕ) → 1 + length line ≤ length buffer → part ≡ over (behind buffer) 0 line
    → length (put_mid 1 (length (set buffer 0 58) - 1) (set buffer 0 58) part) ≡ length buffer
colon-length buffer line part room part-is =
    ap length (colon-put buffer line part room part-is) ∙ over-length buffer 0 (58 ∷ line) (omega arith)
