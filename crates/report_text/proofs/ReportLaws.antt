-- The report by the verdict on its line: a refusal gives the text, and of a line that passes the design does.
use Rattle.std.specs.Prelude.{Ok, Err}
use mathlib.Core.Path.{◌≡◌, sym, ◌∙◌}
use mathlib.Core.List.{List}
use Prim.Native.Nat.{ℕ, ◌+◌, ◌≤◌, ◌<◌}
use native.Mathlib.Decide.{dec_le}
use native.Mathlib.Omega.{arith}
use lib.ListN.{length, take}
use lib.Seq.{take_all, length-take-le}
use Rattle.refusal.specs.declared.Cause.{Cause}
use Rattle.design.specs.Legal.{Legal}
use Rattle.design.specs.declared.Design.{Design}
use Rattle.frames.specs.Line.{longest_line, line_checks}
use Rattle.frames.specs.DesignText.{design_line}
use Rattle.frames.proofs.LineLaws.{long-fails}
use Rattle.frames.proofs.DesignLaws.{line_refused, line-told, line-design}
use Rattle.report_text.specs.Words.{text_of}
use Rattle.report_text.specs.Report.{design_text, refused_text, report_of}

-- The report by what `design_line` gives
module _ (line : List ℕ) where
  pub refused-line : (cause : Cause) → Err cause ≡ design_line line → text_of (refused_text cause) ≡ report_of line
  unfolding report_of
  refused-line cause e = rw (line-told line cause (sym e))

  pub legal-line : (d : Design) → Ok d ≡ design_line line → Legal d
  legal-line d e = (line-design line d (sym e)).2

  pub passed-line : (d : Design) → Ok d ≡ design_line line → text_of (design_text d) ≡ report_of line
  unfolding report_of
  passed-line d e = let given = line-design line d (sym e) in rw (given.0, given.1)

-- A line that is longer than the longest is refused, whatever stands in it.
long-refused : (line : List ℕ) → longest_line < length line → text_of (refused_text Cause.Line) ≡ report_of line
unfolding report_of line_checks
long-refused line h = rw (line_refused line Cause.Line (rw (long-fails line h)))

-- So the report needs no more of a line than one byte beyond that.
pub report-cut : (line : List ℕ) → report_of (take (longest_line + 1) line) ≡ report_of line
report-cut line =
    let n = longest_line + 1 in
    elim (dec_le (length line) n) [
      | yes short ↦ rw (take_all n line short)
      | no long ↦
          let more : n ≤ length line = omega arith in
          sym (long-refused (take n line) (rw (length-take-le n line more) (omega arith))) ∙ long-refused line (omega arith)
    ]
