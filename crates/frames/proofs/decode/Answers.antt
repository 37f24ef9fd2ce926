-- `frames::decode` meets its contract: a line that is empty or of a wrong length is refused, and for any other its digits decide.
use mathlib.Core.Path.{sym, ap, ◌∙◌}
use Rattle.std.specs.Prelude.{Option, ok_or}
use Rattle.refusal.specs.declared.Cause.{Cause}
use Rattle.frames.specs.declared.Decoded.{Decoded}
use Rattle.frames.proofs.LineLaws.{empty-refused, length-refused, text-decides}
use Rattle.frames.proofs.decode.Goals as goal
use Rattle.frames.proofs.decode.Goals.{then-is_empty-via-else-is_empty+then-length_fails, then-is_empty-via-then-is_empty}

pub returns : goal.returns
returns c =
    c.ok_or.ensures.value
    ∙ ap (λ (o : Option Decoded). ok_or o Cause.Line) c.decode_digits.ensures
    ∙ text-decides _ (sym c.is_empty.ensures ∙ c.if-is_empty.false) (sym c.length_fails.ensures ∙ c.if-length_fails.false)

pub returns-then-is_empty : goal.returns-then-is_empty
returns-then-is_empty c =
    elim c.then-is_empty.branch [ then-is_empty-via-then-is_empty w ↦ empty-refused _ (sym c.is_empty.ensures ∙ w.if-is_empty.true) | then-is_empty-via-else-is_empty+then-length_fails w ↦ length-refused _ (sym w.length_fails.ensures ∙ w.if-length_fails.true) ]
