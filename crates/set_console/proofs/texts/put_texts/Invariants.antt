-- `set_console::texts::put_texts`: each text is put behind those before it, and none past the last is given.
use mathlib.Core.Path.{◌≡◌}
use Prim.Native.Nat.{◌≤◌}
use lib.ListN.{length}
use Rattle.general.specs.Below.{list_below}
use Rattle.console.specs.Reading.{KeepsInput}
use Rattle.console.specs.Writing.{pending_in, Puts, printed}
use Rattle.set_console.proofs.texts.put_texts.Given as goal

abbrev pub invariant-loop-number : goal.invariant-loop-number
invariant-loop-number g l =
    record {
      within : l.number ≤ g.T.Texts.count l.texts;
      so_far : Puts (length l.initial.console.output) (pending_in l.initial.console) (printed (list_below l.number (g.T.Texts.text l.texts)))
          (pending_in l.console);
      input : KeepsInput l.initial.console l.console;
      room : length l.console.output ≡ length l.initial.console.output;
    }
