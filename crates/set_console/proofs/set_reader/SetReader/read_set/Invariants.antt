-- `set_console::set_reader::SetReader::read_set` ends, since the number of lines does; each line is fed after those before it.
use Rattle.std.specs.Prelude.{Ok}
use mathlib.Core.Path.{◌≡◌}
use Prim.Native.Nat.{◌-◌, ◌^◌}
use lib.ListN.{length}
use Rattle.reading.specs.ReadLine.{session}
use Rattle.set_console.specs.declared.Came.{Came}
use Rattle.set_console.specs.Reading.{Led}
use Rattle.set_console.proofs.set_reader.SetReader.read_set.Given as goal

abbrev pub invariant-lines : goal.invariant-lines
invariant-lines g l =
    let i = l.initial in
    record {
      led : Led (session i.self.state i.initial' i.offsets) (session l.self.state l.initial' l.offsets) i.console l.console i.self.lines l.self.lines
          (Ok Came.Line);
      initial_length : length l.initial' ≡ length i.initial';
      offsets_length : length l.offsets ≡ length i.offsets;
      input : length l.console.input ≡ length i.console.input;
      output : l.console.output ≡ i.console.output;
    }

abbrev pub decreases-lines : goal.decreases-lines
decreases-lines g l = 2 ^ 64 - l.self.lines
