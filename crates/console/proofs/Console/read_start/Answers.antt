-- `console::Console::read_start` meets its contract: no newline is stored, and the bytes that were taken are those of the line.
use mathlib.Core.Path.{◌∙◌}
use native.Mathlib.Omega.{arith}
use lib.Seq.{set-get_or}
use Rattle.console.proofs.LineLaws.{one_more, by-input}
use Rattle.console.proofs.TakeLaws.{takes-byte, takes-end, end_kept, line-more, line-newline, line-end}
use Rattle.console.proofs.Console.read_start.Goals as goal

pub returns-in-None-clause-start : goal.returns-in-None-clause-start
returns-in-None-clause-start g c = end_kept _ _ _ c.next_byte.ensures.value c.in-None.is

pub returns-in-None-clause-taken : goal.returns-in-None-clause-taken
returns-in-None-clause-taken g c =
    let l = c.loop-count in
    rw c.if-count-eq0.true at (line-end _ _ _ _ l.invariant.taken (takes-end _ _ _ c.next_byte.ensures.value c.in-None.is))

pub returns-in-None-2-clause-start : goal.returns-in-None-2-clause-start
returns-in-None-2-clause-start g c =
    let l = c.loop-count in
    rw (set-get_or l.bytes l.count 0)
    (by-input _ l.bytes l.count (omega arith) l.invariant.no-newline (omega arith)
    (end_kept _ _ _ c.next_byte.ensures.value c.in-None-2.is))

pub returns-in-None-2-clause-taken : goal.returns-in-None-2-clause-taken
returns-in-None-2-clause-taken g c =
    let l = c.loop-count in
    rw (set-get_or l.bytes l.count 0)
    (line-end _ _ _ _ l.invariant.taken (takes-end _ _ _ c.next_byte.ensures.value c.in-None-2.is))

pub returns-in-Some-eq10-clause-taken : goal.returns-in-Some-eq10-clause-taken
returns-in-Some-eq10-clause-taken g c =
    let l = c.loop-count in
    rw (set-get_or l.bytes l.count 0)
    (line-newline _ _ _ _ _ l.invariant.taken (takes-byte _ _ _ c.next_byte.ensures.value _ c.in-Some-eq10.is)
    c.in-Some-eq10.field-0-test)

pub loop-count-preserved : goal.loop-count-preserved
loop-count-preserved g c =
    let l = c.loop-count in
    let b = c.in-Some.b in
    record {
      taken = line-more _ _ _ l.bytes l.count b (omega arith) l.invariant.taken (takes-byte _ _ _ c.next_byte.ensures.value b c.in-Some.is);
      no-newline = one_more l.bytes l.count b (omega arith) l.invariant.no-newline c.in-Some.b-test.1;
      input = c.next_byte.ensures.input ∙ l.invariant.input;
      output = c.next_byte.ensures.output ∙ l.invariant.output;
    }
