-- A line that has to hold a design and stands by itself, as the report's does: "report 15, 16, 1 to 9". Document 02, A8, of an empty line:
-- "the report still refuses it with 15".
use Rattle.std.specs.Prelude.{List, ◌++◌, ℕ, length, Result}
use Rattle.refusal.specs.declared.Cause.{Cause}
use Rattle.refusal.specs.Verdict.{Verdict}
use Rattle.refusal.specs.Checks.{verdict, answer}
use Rattle.design.specs.declared.Design.{Design}
use Rattle.frames.specs.Hex.{bytes_of}
use Rattle.frames.specs.Line.{line_checks}
use Rattle.frames.specs.DesignFrame.{frame_design, first_checks}

unfoldable pub design_line_verdict : List ℕ → Verdict
design_line_verdict line = verdict (line_checks line ++ first_checks (bytes_of line) (length (bytes_of line)))

-- What the call `design_line` answers: the design in the bytes of a line that passes.
unfoldable pub design_line : List ℕ → Result Design Cause
design_line line = answer (design_line_verdict line) (frame_design (bytes_of line))
