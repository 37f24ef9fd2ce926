-- `console::Console::read_start` meets its contract: no newline is stored, and the bytes that were taken are those that are stored.
use mathlib.Core.Path.{◌≡◌}
use lib.ListN.{length, take}
use Rattle.console.specs.Reading.{NoNewline, Takes}
use Rattle.console.proofs.Console.read_start.Given as goal

abbrev pub invariant-loop-count : goal.invariant-loop-count
invariant-loop-count g l = record {
  taken : Takes l.initial.self (take l.count l.bytes) l.self;
  no-newline : NoNewline l.bytes l.count;
  input : length l.self.input ≡ length l.initial.self.input;
  output : l.self.output ≡ l.initial.self.output;
}
