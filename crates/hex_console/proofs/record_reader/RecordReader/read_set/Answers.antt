-- `hex_console::record_reader::RecordReader::read_set` meets its contract: each step feeds what it took.
use Rattle.std.specs.Prelude.{Ok}
use mathlib.Core.Path.{refl, ap, ◌∙◌}
use native.Mathlib.Omega.{arith}
use Rattle.record_reading.proofs.StateLaws.{taken-within}
use Rattle.hex_console.proofs.LoadLaws.{loaded-none, loaded-more, unfinished_none}
use Rattle.hex_console.proofs.record_reader.RecordReader.read_set.Goals as goal

pub records-init : goal.records-init
records-init g c =
    let new = c.new.ensures in
    record { design = new.0; came = rw new.1 (loaded-none _ _ _); unfinished = rw new.1 (unfinished_none _); input = refl; output = refl }

pub records-preserved : goal.records-preserved
records-preserved g c =
    let inv = c.records.invariant in
    let step = c.take_record.ensures in
    let stepped = rw inv.design at step.stepped in
    record {
      design = step.design ∙ inv.design;
      came = loaded-more _ _ _ _ _ _ inv.came stepped;
      unfinished = stepped.unfinished (c.in_ok-take_record.was ∙ ap Ok c.in-Line.is);
      input = step.input ∙ inv.input;
      output = step.output ∙ inv.output;
    }

pub records-smaller : goal.records-smaller
records-smaller g c =
    let inv = c.records.invariant in
    let stepped = rw inv.design at c.take_record.ensures.stepped in
    let next = loaded-more _ _ _ _ _ _ inv.came stepped in
    omega (arith, stepped.moves (c.in_ok-take_record.was ∙ ap Ok c.in-Line.is), taken-within _ _ next.is-possible)

pub returns-in-Set-clause-came : goal.returns-in-Set-clause-came
returns-in-Set-clause-came g c =
    let inv = c.records.invariant in
    loaded-more _ _ _ _ _ _ inv.came (rw inv.design at c.take_record.ensures.stepped)
