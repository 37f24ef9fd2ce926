-- `reading::head_fails` meets its contract: after i turns the first i bytes are those that are due.
use mathlib.Core.Path.{◌≡◌}
use mathlib.Core.Bool.{true}
use lib.ListN.{take}
use Rattle.reading.specs.ReadLine.{begins}
use Rattle.reading.proofs.head_fails.Given as goal

abbrev pub invariant-loop-i : goal.invariant-loop-i
invariant-loop-i l = begins l.frame.bytes (take l.i l.fn.head.bytes) ≡ true
