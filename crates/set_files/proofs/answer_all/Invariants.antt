-- `set_files::answer_all` ends: each turn of its loop takes a line or more.
use mathlib.Core.Path.{◌≡◌}
use Prim.Native.Nat.{◌-◌, ◌^◌}
use lib.ListN.{length}
use Rattle.reading.specs.ReadLine.{session}
use Rattle.console.specs.Reading.{KeepsBlocks}
use Rattle.set_console.specs.Reading.{Reached}
use Rattle.set_files.proofs.answer_all.Given as goal

abbrev pub invariant-sets : goal.invariant-sets
invariant-sets g l =
    record {
      initial_length : length l.initial' ≡ length l.initial.initial';
      offsets_length : length l.offsets ≡ length l.initial.offsets;
      blocks : ((c : _) (d : _) (i : _) (o : _) (n : _) → goal.F-post g l.put_answer c d i o tt n → KeepsBlocks c.now n.now)
          → (length l.console.input ≡ length l.initial.console.input) × (length l.console.output ≡ length l.initial.console.output);
      reached : Reached (session l.reader.state l.initial' l.offsets);
    }

abbrev pub decreases-sets : goal.decreases-sets
decreases-sets g l = 2 ^ 64 - l.reader.lines
