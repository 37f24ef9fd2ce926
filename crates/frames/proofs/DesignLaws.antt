-- A line that has to hold a design: its verdict by those of its two lists of checks, and the design of one that passes.
use Rattle.std.specs.Prelude.{Ok, Err}
use mathlib.Core.Path.{◌≡◌, sym, ◌∙◌}
use mathlib.Core.List.{List}
use Prim.Native.Nat.{ℕ}
use lib.ListN.{length}
use Rattle.refusal.specs.declared.Cause.{Cause}
use Rattle.refusal.specs.Verdict.{Verdict}
use Rattle.refusal.specs.Checks.{verdict}
use Rattle.refusal.proofs.Checks.{verdict-append, passed-append}
use Rattle.refusal.proofs.Answers.{answer-refused, answer-given}
use Rattle.design.specs.declared.Design.{Design}
use Rattle.design.specs.Legal.{Legal}
use Rattle.frames.specs.declared.Decoded.{Decoded}
use Rattle.frames.specs.Hex.{bytes_of}
use Rattle.frames.specs.Line.{line_checks, decoded}
use Rattle.frames.specs.DesignFrame.{frame_design, first_checks}
use Rattle.frames.specs.DesignText.{design_line_verdict, design_line}
use Rattle.frames.proofs.LineLaws.{line-passed, held_whole}
use Rattle.frames.proofs.FrameLaws.{frame_design-padded, first_checks-padded, first_frame}

module _ (line : List ℕ) where
  pub line_refused : (cause : Cause) → verdict (line_checks line) ≡ Err cause → design_line_verdict line ≡ Err cause
  unfolding design_line_verdict
  line_refused cause e = rw (verdict-append, e)

  frame-decides : verdict (line_checks line) ≡ (Ok tt)
      → design_line_verdict line ≡ verdict (first_checks (bytes_of line) (length (bytes_of line)))
  unfolding design_line_verdict
  frame-decides e = rw (verdict-append, e)

-- What `design_line` answers, by the verdicts of the line and of its frame, which is there whole
module _ (line : List ℕ) where
  pub unsound-line : (cause : Cause) → verdict (line_checks line) ≡ Err cause → Err cause ≡ design_line line
  unfolding design_line
  unsound-line cause e = rw (line_refused line cause e)

  module _ (held : Decoded) (held-is : decoded line ≡ Ok held) where
    decides : (r : Verdict) → r ≡ verdict (first_checks held.bytes held.count) → design_line_verdict line ≡ r
    decides r promise =
        let told : r ≡ verdict (first_checks (bytes_of line) (length (bytes_of line))) =
        rw (held_whole line held held-is, first_checks-padded) at promise in
        frame-decides line (line-passed line held held-is) ∙ sym told

    pub unsound_frame : (cause : Cause) → Err cause ≡ verdict (first_checks held.bytes held.count) → Err cause ≡ design_line line
    unfolding design_line
    unsound_frame cause e = rw (decides (Err cause) e)

    pub sound-line : Ok tt ≡ verdict (first_checks held.bytes held.count) → (design : Design) → design ≡ frame_design held.bytes
        → Ok design ≡ design_line line
    unfolding design_line
    sound-line e design design-is =
        rw (decides (Ok tt) e, design-is, held_whole line held held-is, frame_design-padded)

-- A line that passes holds a legal design.
module _ (line : List ℕ) where
  pub frame-legal : design_line_verdict line ≡ (Ok tt) → Legal (frame_design (bytes_of line))
  unfolding design_line_verdict
  frame-legal passed =
      (first_frame _ _ (passed-append (line_checks line) (first_checks (bytes_of line) (length (bytes_of line))) passed).1).legal

  -- What `design_line` tells
  pub line-told : (cause : Cause) → design_line line ≡ Err cause → design_line_verdict line ≡ Err cause
  unfolding design_line
  line-told cause e = answer-refused _ (frame_design (bytes_of line)) e

  pub line-design : (d : Design) → design_line line ≡ Ok d
      → (design_line_verdict line ≡ Ok tt) × (frame_design (bytes_of line) ≡ d) × Legal d
  unfolding design_line
  line-design d e =
      let given = answer-given (design_line_verdict line) (frame_design (bytes_of line)) e in
      (given.0, given.1, rw given.1 at frame-legal given.0)
