-- `set_files::answer_next` meets its contract: the block of the input stands where an answer that is put keeps the blocks.
use mathlib.Core.Path.{refl, sym, ap, ◌∙◌}
use lib.ListN.{length}
use Rattle.set_files.proofs.answer_next.Goals as goal

pub returns-clause-led : goal.returns-clause-led
returns-clause-led g c =
    let read = c.read_set-came in (
      read.new.console.input,
      record { to = read.new.console; stands = refl; led = read.ensures.led },
      λ keeps.
          let kept = c.put_came.ensures.blocks keeps in
          (sym kept.0.0, ap length kept.0.0 ∙ read.ensures.input, kept.1 ∙ ap length read.ensures.output),
    )
