-- `hex_console::read_design` meets its contract: there is no line, it is refused, or it holds a legal design.
use mathlib.Core.Path.{sym, ◌∙◌}
use Rattle.std.specs.Prelude.{Some}
use Rattle.std.proofs.lemmas.Result.{err_from_is_err_and}
use Rattle.hex_console.proofs.StepLaws.{design-came, design-refused, design-held}
use Rattle.hex_console.proofs.read_design.Goals as goal

pub returns-clause-design : goal.returns-clause-design
returns-clause-design g c = design-came _ _ (sym c.design_line.ensures ∙ c.in_ok-design.was)

pub returns-clause-told : goal.returns-clause-told
returns-clause-told g c =
    record { bytes = c.read_text.new.bytes; line = Some c.in-Some.line; came = c.in-Some.ensures.read; told = design-held _ _ (sym c.design_line.ensures ∙ c.in_ok-design.was) }

pub returns-in_err-design-clause-told : goal.returns-in_err-design-clause-told
returns-in_err-design-clause-told g c =
    let r = err_from_is_err_and c.from_residual.result c.from_residual.ensures.1 in
    rw (r.1, r.2)
    (record { bytes = c.read_text.new.bytes; line = Some c.in-Some.line; came = c.in-Some.ensures.read; told = design-refused _ _ (sym c.design_line.ensures ∙ c.in_err-design.was) })
