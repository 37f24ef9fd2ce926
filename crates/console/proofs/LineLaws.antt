-- Bytes of a line before its newline, and a line that is cut off.
use mathlib.Core.Path.{◌≡◌}
use mathlib.Core.Bool.{true}
use mathlib.Core.List.{List, ◌++◌}
use Prim.Native.Nat.{ℕ, ◌+◌, ◌≤◌, ◌<◌}
use native.Mathlib.Numerals.{add-one}
use native.Mathlib.Omega.{arith}
use lib.ListN.{length, take, set, length-append}
use lib.Seq.{get_or-set_same, get_or-set_other, length-take-le}
use Rattle.general.proofs.Sums.{below_suc}
use Rattle.frames.specs.Line.{longest_line, line_fails}
use Rattle.frames.proofs.LineLaws.{long-fails}
use Rattle.console.specs.Blocks.{Blocks}
use Rattle.console.specs.declared.line.LineEnd.{LineEnd}
use Rattle.console.specs.declared.line.Line.{Line}
use Rattle.console.specs.Reading.{NoNewline, StartRead, LineRead}
use Rattle.console.proofs.CountLaws.{prefix_len_of_le}

pub one_more : (bytes : List ℕ) (n byte : ℕ) → n < length bytes → NoNewline bytes n → (byte ≡ 10 → ⊥)
    → NoNewline (set bytes n byte) (n + 1)
one_more bytes n byte short none other i h =
    below_suc (rw add-one at h)
    (λ at. rw (at, get_or-set_same bytes n byte 0 short) other)
    (λ before. rw (get_or-set_other bytes n i byte 0 (omega arith)) (none i before))

-- More bytes than the longest line has are refused, whatever follows.
pub cut-fails : (bytes rest : List ℕ) (n : ℕ) → n ≤ length bytes → longest_line < n → line_fails (take n bytes ++ rest) ≡ true
cut-fails bytes rest n fits long =
    long-fails (take n bytes ++ rest) (omega (arith, length-append (take n bytes) rest, length-take-le n bytes fits))

-- What is read of a line, by how it ended
module _ (next : Blocks) (bytes : List ℕ) (n : ℕ) (fits : n ≤ length bytes) (none : NoNewline bytes n) where
  pub ended : (end : LineEnd) → (end ≡ LineEnd.Cut → n ≡ length bytes) → (end ≡ LineEnd.Input → 0 < n)
      → (end ≡ LineEnd.Input → next.ended ≡ true) → StartRead bytes (record { count = n; end = end }) next
  ended end full some over = record { counts = prefix_len_of_le _ _ fits; no-newline = none; full = full; over = over; some = some }

  pub by-newline : StartRead bytes (record { count = n; end = LineEnd.Newline }) next
  by-newline =
      ended LineEnd.Newline (λ e. let z : ◌≡◌ {A = ℕ} 0 1 = cc in absurd (omega arith))
      (λ e. let z : ◌≡◌ {A = ℕ} 0 1 = cc in absurd (omega arith)) (λ e. let z : ◌≡◌ {A = ℕ} 0 1 = cc in absurd (omega arith))

  pub by-input : 0 < n → next.ended ≡ true → StartRead bytes (record { count = n; end = LineEnd.Input }) next
  by-input some over = ended LineEnd.Input (λ e. let z : ◌≡◌ {A = ℕ} 0 1 = cc in absurd (omega arith)) (λ e. some) (λ e. over)

  pub cut_off : n ≡ length bytes → StartRead bytes (record { count = n; end = LineEnd.Cut }) next
  cut_off all =
      ended LineEnd.Cut (λ e. all) (λ e. let z : ◌≡◌ {A = ℕ} 0 1 = cc in absurd (omega arith))
      (λ e. let z : ◌≡◌ {A = ℕ} 0 1 = cc in absurd (omega arith))

-- A line of which so many bytes are read is refused where it is cut off, whatever follows.
pub whole-line : (line : Line) (next : Blocks) → longest_line < length line.bytes
    → StartRead line.bytes (record { count = line.count; end = line.end }) next → LineRead line next
whole-line line next long read =
    record {
      counts = read.counts;
      no-newline = read.no-newline;
      over = read.over;
      cut = λ e rest. cut-fails line.bytes rest line.count read.counts.0 (omega (arith, read.full e));
    }
