-- `reading::Reading::next` meets its contract: the state is tried, then the line, and then its frame, as the first one or a later one.
use Rattle.std.proofs.lemmas.Result.{err_from_is_err_and}
use mathlib.Core.Path.{sym, ◌∙◌}
use native.Mathlib.Omega.{arith}
use Rattle.general.proofs.Tests.{tested}
use Rattle.frames.proofs.LineLaws.{line-refused, line-passed}
use Rattle.reading.proofs.ReadLaws.{begun}
use Rattle.reading.proofs.ReadSteps.{frame-held, sound-held, impossible, empty-outcome, unsound, line-outcome, first-outcome}
use Rattle.reading.proofs.Reading.next.Goals as goal

pub returns-then-not-possible : goal.returns-then-not-possible
returns-then-not-possible c =
    impossible _ c.args.initial.now c.args.offsets.now _ (tested c.is_possible-possible.ensures c.if-not-possible.true)

pub returns-then-empty : goal.returns-then-empty
returns-then-empty c =
    empty-outcome _ c.args.initial.now c.args.offsets.now _ (tested c.is_possible-possible.ensures c.if-not-possible.false)
    (tested c.is_empty-empty.ensures c.if-empty.true) _ c.empty_line.ensures

pub returns-in_err-frame : goal.returns-in_err-frame
returns-in_err-frame c =
    let r = err_from_is_err_and c.from_residual.result c.from_residual.ensures.1 in
    rw (r.1, r.2)
    (unsound _ c.args.initial.now c.args.offsets.now _ (tested c.is_possible-possible.ensures c.if-not-possible.false)
    (tested c.is_empty-empty.ensures c.if-empty.false) _ (line-refused _ _ (sym c.decode.ensures ∙ c.in_err-frame.was)))

pub first_line-requires : goal.first_line-requires
first_line-requires c =
    record { sound = sound-held _ _ (sym c.decode.ensures ∙ c.in_ok-frame.was); taken_value = c.if-self-eq0.true }

pub returns-then-self-eq0 : goal.returns-then-self-eq0
returns-then-self-eq0 c =
    let held = sym c.decode.ensures ∙ c.in_ok-frame.was in
    line-outcome _ _ _ _ (tested c.is_possible-possible.ensures c.if-not-possible.false)
    (tested c.is_empty-empty.ensures c.if-empty.false) (line-passed _ _ held) _ _ _
    (first-outcome _ c.if-self-eq0.true c.args.initial.now c.args.offsets.now _ _ (rw (frame-held _ _ held) at c.first_line.ensures))

pub later_line-requires : goal.later_line-requires
later_line-requires c =
    record {
      sound = sound-held _ _ (sym c.decode.ensures ∙ c.in_ok-frame.was);
      begun = begun _ (omega (arith, c.if-self-eq0.false)) (tested c.is_possible-possible.ensures c.if-not-possible.false);
    }

pub returns : goal.returns
returns c =
    let held = sym c.decode.ensures ∙ c.in_ok-frame.was in
    let same = frame-held _ _ held in
    line-outcome _ c.args.initial.now c.args.offsets.now _ (tested c.is_possible-possible.ensures c.if-not-possible.false)
    (tested c.is_empty-empty.ensures c.if-empty.false) (line-passed _ _ held) _ _ _
    (record {
      value = rw same at c.later_line.ensures.value;
      initial_after = rw same at c.later_line.ensures.initial_after;
      offsets_after = rw same at c.later_line.ensures.offsets_after;
    })
