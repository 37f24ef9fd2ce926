-- `set_console::set_reader::SetReader::read_set` meets its contract: each line is fed after those before it.
use Rattle.std.specs.Prelude.{Bool, Result, Ok, Err}
use Rattle.std.proofs.lemmas.Result.{err_from_is_err_and}
use mathlib.Core.Path.{◌≡◌, refl, sym, ap, ◌∙◌}
use borrow.Author.Rules.{rules}
use Rattle.refusal.specs.declared.Cause.{Cause}
use Rattle.set_console.proofs.FeedLaws.{none_yet, led-more, reached-more, reached-set}
use Rattle.set_console.proofs.ShortLaws.{never-short}
use Rattle.set_console.proofs.set_reader.SetReader.read_set.Goals as goal

same-cause : {a b : Cause} → ◌≡◌ {A = Result Bool Cause} (Err a) (Err b) → a ≡ b
same-cause e = cc

pub lines-init : goal.lines-init
lines-init g c = record { led = none_yet _ _ _; initial_length = refl; offsets_length = refl; input = refl; output = refl }

pub lines-preserved : goal.lines-preserved
lines-preserved g c =
    let inv = c.lines.invariant in
    let line = c.in_ok-take_line.was ∙ ap Ok c.in-Line.is in
    record {
      led = led-more _ _ _ _ _ _ _ _ _ _ inv.led (rw line at c.take_line.ensures.led);
      initial_length = search rules;
      offsets_length = search rules;
      input = search rules;
      output = search rules;
    }

pub returns-in-Set-clause-led : goal.returns-in-Set-clause-led
returns-in-Set-clause-led g c =
    let set = c.in_ok-take_line.was ∙ ap Ok c.in-Set.is in
    led-more _ _ _ _ _ _ _ _ _ _ c.lines.invariant.led (rw set at c.take_line.ensures.led)

pub returns-in-Set-clause-reached : goal.returns-in-Set-clause-reached
returns-in-Set-clause-reached g c = reached-more (reached-more c.requires.begun c.lines.invariant.led) c.take_line.ensures.led

pub returns-in-Set-clause-storable : goal.returns-in-Set-clause-storable
returns-in-Set-clause-storable g c e =
    let set = c.in_ok-take_line.was ∙ ap Ok c.in-Set.is in
    let led = c.take_line.ensures.led in
    reached-set (reached-more (reached-more c.requires.begun c.lines.invariant.led) led) (led.complete set)

pub returns-in-Nothing-clause-led : goal.returns-in-Nothing-clause-led
returns-in-Nothing-clause-led g c =
    let nothing = c.in_ok-take_line.was ∙ ap Ok c.in-Nothing.is in
    led-more _ _ _ _ _ _ _ _ _ _ c.lines.invariant.led (rw nothing at c.take_line.ensures.led)

pub returns-in-Nothing-clause-reached : goal.returns-in-Nothing-clause-reached
returns-in-Nothing-clause-reached g c = reached-more (reached-more c.requires.begun c.lines.invariant.led) c.take_line.ensures.led

pub returns-in_err-take_line-clause-led : goal.returns-in_err-take_line-clause-led
returns-in_err-take_line-clause-led g c =
    let r = err_from_is_err_and c.from_residual.result c.from_residual.ensures.1 in
    let refused = c.in_err-take_line.was in
    rw (r.1, r.2) (led-more _ _ _ _ _ _ _ _ _ _ c.lines.invariant.led (rw refused at c.take_line.ensures.led))

pub returns-in_err-take_line-clause-held : goal.returns-in_err-take_line-clause-held
returns-in_err-take_line-clause-held g c e =
    let r = err_from_is_err_and c.from_residual.result c.from_residual.ensures.1 in
    let inv = c.lines.invariant in
    let t = c.take_line in
    let initial = t.auto.initial ∙ inv.initial_length in
    let offsets = t.auto.offsets ∙ inv.offsets_length in
    let short = c.in_err-take_line.was ∙ ap Err (sym r.2 ∙ same-cause (sym r.1 ∙ e)) in
    never-short _ _ (rw (sym initial, sym offsets) at c.requires.holds_every_set) (t.ensures.led.refused _ short)

pub returns-in_err-take_line-clause-reached : goal.returns-in_err-take_line-clause-reached
returns-in_err-take_line-clause-reached g c = reached-more (reached-more c.requires.begun c.lines.invariant.led) c.take_line.ensures.led
