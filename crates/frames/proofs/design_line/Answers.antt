-- `frames::design_line` meets its contract: the line is tried, and then the frame on it.
use Rattle.std.proofs.lemmas.Result.{err_from_is_err_and}
use mathlib.Core.Path.{sym, ◌∙◌}
use Rattle.frames.proofs.LineLaws.{line-refused}
use Rattle.frames.proofs.DesignLaws.{unsound-line, unsound_frame, sound-line}
use Rattle.frames.proofs.design_line.Goals as goal

pub returns-in_err-frame : goal.returns-in_err-frame
returns-in_err-frame c =
    let r = err_from_is_err_and c.from_residual.result c.from_residual.ensures.1 in
    rw (r.1, r.2) (unsound-line _ _ (line-refused _ _ (sym c.decode.ensures ∙ c.in_err-frame.was)))

pub returns-in_err-legal : goal.returns-in_err-legal
returns-in_err-legal c =
    let from = c.from_residual-in_err-legal in
    let r = err_from_is_err_and from.result from.ensures.1 in
    rw (r.1, r.2) (unsound_frame _ _ (sym c.decode.ensures ∙ c.in_ok-frame.was) _ c.in_err-legal.ensures.verdict)

pub returns : goal.returns
returns c =
    let e = c.in_ok-legal.ensures in
    sound-line _ _ (sym c.decode.ensures ∙ c.in_ok-frame.was) e.verdict _ e.held
