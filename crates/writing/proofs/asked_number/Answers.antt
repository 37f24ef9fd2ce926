-- `writing::asked_number` meets its contract: the entry passes its checks or is refused, case by case.
use Rattle.std.proofs.lemmas.Result.{err_from_is_err_and}
use mathlib.Core.Path.{sym, ◌∙◌}
use mathlib.Core.Bool.{false}
use mathlib.Core.Logic.{inl, inr}
use borrow.Author.Rules.{rules}
use borrow.Author.Tests.{not-false}
use lib.IntN.{pos}
use lib.ListN.{get_or}
use mir.Syntax.{w32}
use mir.ValLaws.{to_z-of_z}
use Rattle.refusal.proofs.Checks.{none-fails}
use Rattle.lines.specs.Lines.{entry_number, entry_fits, entry_over}
use Rattle.writing.specs.Write.{entry_checks, asked_checks}
use Rattle.writing.proofs.asked_number.Goals as goal

pub returns-in_err-entry_verdict-in-Initial : goal.returns-in_err-entry_verdict-in-Initial
unfolding asked_checks entry_fits entry_over entry_number
returns-in_err-entry_verdict-in-Initial c =
    let r = err_from_is_err_and c.from_residual.result c.from_residual.ensures.1 in
    rw (r.1, r.2, c.in-Initial.is, ← c.fits.ensures, ← c.initial_over.ensures, sym c.entry_verdict.ensures ∙ c.in_err-entry_verdict-in-Initial.was)

pub returns-in_ok-entry_verdict-in-Initial : goal.returns-in_ok-entry_verdict-in-Initial
unfolding asked_checks entry_fits entry_over entry_number
returns-in_ok-entry_verdict-in-Initial c =
    rw (c.in-Initial.is, ← c.fits.ensures, ← c.initial_over.ensures, sym c.entry_verdict.ensures ∙ c.in_ok-entry_verdict-in-Initial.was)

pub returns-in_err-entry_verdict-in-Offset : goal.returns-in_err-entry_verdict-in-Offset
unfolding asked_checks entry_fits entry_over entry_number
returns-in_err-entry_verdict-in-Offset c =
    let r = err_from_is_err_and c.from_residual-in_err-entry_verdict-in-Offset.result c.from_residual-in_err-entry_verdict-in-Offset.ensures.1 in
    let z = to_z-of_z w32 (get_or c.args.offsets.now c.in-Offset.place (pos 0)) (search rules) in
    rw (r.1, r.2, c.in-Offset.is, ← z, ← c.fits_signed.ensures, sym c.entry_verdict-in-Offset.ensures ∙ c.in_err-entry_verdict-in-Offset.was)

pub complement-requires : goal.complement-requires
unfolding entry_checks
complement-requires c =
    let tests = none-fails (entry_checks c.fits_signed.result false) (sym c.entry_verdict-in-Offset.ensures ∙ c.in_ok-entry_verdict-in-Offset.was) in
    sym c.fits_signed.ensures ∙ not-false _ tests.0

pub returns-in_ok-entry_verdict-in-Offset : goal.returns-in_ok-entry_verdict-in-Offset
unfolding asked_checks entry_fits entry_over entry_number
returns-in_ok-entry_verdict-in-Offset c =
    let z = to_z-of_z w32 (get_or c.args.offsets.now c.in-Offset.place (pos 0)) (search rules) in
    rw (c.in-Offset.is, ← z, ← c.fits_signed.ensures, sym c.entry_verdict-in-Offset.ensures ∙ c.in_ok-entry_verdict-in-Offset.was, c.complement.ensures)

pub returns-in-Design : goal.returns-in-Design
unfolding asked_checks entry_checks entry_fits entry_over entry_number
returns-in-Design c = elim c.in-Design.is [ inl e ↦ rw e | inr (before, e) ↦ rw e ]
