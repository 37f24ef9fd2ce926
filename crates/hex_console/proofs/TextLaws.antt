-- What stands on a line without its carriage return, and lines that are longer than any record.
use mathlib.Core.Path.{◌≡◌, refl, sym, ◌∙◌}
use mathlib.Core.Bool.{Bool, true, false}
use mathlib.Core.List.{List, ◌++◌}
use Prim.Native.Nat.{ℕ, ◌+◌, ◌-◌, ◌≤◌, ◌<◌}
use native.Mathlib.Omega.{arith}
use lib.Dec.{eqb}
use lib.ListN.{length, get_or, take, length-append}
use lib.Seq.{length-take-le, get_or-take, take-take}
use borrow.Author.Tests.{eq-eqb, ne_eqb}
use Rattle.frames.proofs.LineLaws.{long-fails}
use Rattle.records.specs.Record.{longest_record}
use Rattle.records.proofs.RecordLaws as RecordLaws
use Rattle.console.specs.declared.line.LineEnd.{LineEnd}
use Rattle.console.specs.declared.line.LineStart.{LineStart}
use Rattle.console.specs.Blocks.{Blocks}
use Rattle.console.specs.Reading.{Takes, spelled, StartRead}
use Rattle.hex_console.specs.LineTexts.{without_return, line_text, TextFails, TextRead}
use Rattle.console.proofs.CountLaws.{prefix_len_of_le}

-- Of no bytes none are left.
pub none_left : (bytes : List ℕ) → take 0 bytes ≡ without_return (take 0 bytes)
unfolding without_return
none_left bytes = refl

-- The last of n bytes is a carriage return, or is not.
module _ (bytes : List ℕ) (n : ℕ) (some : 0 < n) (fits : n ≤ length bytes) where
  last-is : get_or (take n bytes) (length (take n bytes) - 1) 0 ≡ get_or bytes (n - 1) 0
  last-is = rw (length-take-le n bytes fits) (get_or-take n bytes (n - 1) 0 (omega arith))

  pub return-dropped : get_or bytes (n - 1) 0 ≡ 13 → take (n - 1) bytes ≡ without_return (take n bytes)
  unfolding without_return
  return-dropped e =
      rw (eq-eqb _ 13 (last-is ∙ e), length-take-le n bytes fits) (sym (take-take (n - 1) n bytes (omega arith)))

  pub nothing-dropped : (get_or bytes (n - 1) 0 ≡ 13 → ⊥) → take n bytes ≡ without_return (take n bytes)
  unfolding without_return
  nothing-dropped other = rw (ne_eqb _ 13 (λ e. other (sym last-is ∙ e)))

-- No more than one character is dropped.
one-dropped : (text : List ℕ) → length text ≤ length (without_return text) + 1
unfolding without_return
one-dropped text = go (eqb (get_or text (length text - 1) 0) 13) refl
  where
    go : (test : Bool) → eqb (get_or text (length text - 1) 0) 13 ≡ test → length text ≤ length (without_return text) + 1
    go true e = rw e (omega (arith, length-take-le (length text - 1) text (omega arith)))
    go false e = rw e (omega arith)

still-long : (end : LineEnd) (text : List ℕ) → longest_record + 2 ≤ length text → longest_record < length (line_text end text)
unfolding line_text
still-long LineEnd.Newline text long = omega (arith, one-dropped text)
still-long LineEnd.Input text long = omega arith
still-long LineEnd.Cut text long = omega arith

long-text-fails : (text : List ℕ) → longest_record < length text → TextFails text
long-text-fails text long = record { as-record = RecordLaws.long-fails text long; as_line = long-fails text (omega arith) }

-- A line is read into so many bytes or more, and `count` of them stand on it.
pub text-read : (bytes : List ℕ) (start : LineStart) (from to : Blocks) (count : ℕ) → longest_record + 2 ≤ length bytes
    → StartRead bytes start to → Takes from (spelled start.end (take start.count bytes)) to → count ≤ start.count
    → take count bytes ≡ line_text start.end (take start.count bytes) → TextRead bytes (record { count = count; end = start.end }) from to
text-read bytes start from to count room read takes few text =
    record {
      read = start.count;
      taken = takes;
      read-counts = read.counts;
      no-newline = read.no-newline;
      counts = prefix_len_of_le _ _ (omega (arith, read.counts.0));
      text = text;
      cut = λ e rest end.
          let front = take start.count bytes in
          let all : longest_record + 2 ≤ length front = omega (arith, read.full e, length-take-le start.count bytes read.counts.0) in
          long-text-fails _ (still-long end (front ++ rest) (omega (arith, length-append front rest)));
    }
