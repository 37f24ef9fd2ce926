-- Document 01, "Bits, lines and the report": the report's whole output.
use Rattle.std.specs.Prelude.{Bool, cond, List, ◌++◌, ℕ}
use Rattle.refusal.specs.declared.Cause.{Cause}
use Rattle.refusal.specs.Numbers.{number_of}
use Rattle.refusal.specs.Checks.{if_passed}
use Rattle.design.specs.declared.Design.{Design}
use Rattle.design.specs.Budget.{budget, limit, within_limit}
use Rattle.sizing.specs.Size.{size}
use Rattle.frames.specs.Hex.{bytes_of}
use Rattle.frames.specs.DesignFrame.{frame_design}
use Rattle.frames.specs.DesignText.{design_line_verdict}
use Rattle.report_text.specs.declared.Text.{Text}
use Rattle.report_text.specs.Words.{ascii, decimal, text_of}

-- The line on a legal design: budget, limit, size in bits, and whether the budget is within the limit.
unfoldable pub line_text : ℕ → ℕ → ℕ → Bool → List ℕ
line_text b l n within =
    ascii "BUDGET " ++ decimal b ++ ascii " LIMIT " ++ decimal l ++ ascii " BITS " ++ decimal n
    ++ cond within (ascii " ADMITTED\n") (ascii " NOT ADMITTED\n")

-- "budget, 2^(g+17), size, verdict (`ADMITTED` or `NOT ADMITTED`), all decimal"; document 02, A6: "The size applies to admitted designs
-- only; .. the report prints `BITS 0` for" the others
unfoldable pub design_text : Design → List ℕ
design_text d = line_text (budget d) (limit d) (cond (within_limit d) (size d) 0) (within_limit d)

-- "`REFUSED`, a space, its number and a newline"
unfoldable pub refused_text : Cause → List ℕ
refused_text cause = ascii "REFUSED " ++ decimal (number_of cause) ++ ascii "\n"

-- "report 15, 16, 1 to 9"
unfoldable pub report_of : List ℕ → Text
report_of line = text_of (if_passed (design_line_verdict line) (design_text (frame_design (bytes_of line))) refused_text)
