-- The two functions that call each other: `searching::cuts::each_segment_bits` goes through a of the next table, and
-- `searching::cuts::each_offset_bits` through its b and, for each, through the tables after it. Fewer tables are left each time.
use Rattle.std.proofs.Common.{◌+◌, ◌-◌, ◌*◌}
use Rattle.searching.proofs.TurnLaws.{OverA, OverB}
use Rattle.searching.proofs.cuts.+each_offset_bits_each_segment_bits.Given as goal

-- how many tables are left, twice, and one more for the loop over a, which comes first
abbrev pub decreases-each_offset_bits : goal.decreases-each_offset_bits
decreases-each_offset_bits l = 2 * (l.prefix.now.design.m - l.prefix.now.tables)

abbrev pub decreases-each_segment_bits : goal.decreases-each_segment_bits
decreases-each_segment_bits l = 2 * (l.prefix.now.design.m - l.prefix.now.tables) + 1

abbrev pub invariant-each_offset_bits-loop-b : goal.invariant-each_offset_bits-loop-b
invariant-each_offset_bits-loop-b l =
    OverB l.prefix.design l.prefix.tables l.a (l.prefix.design.m - (l.prefix.tables + 1)) l.first l.initial.found l.found l.b

abbrev pub invariant-each_segment_bits-loop-a : goal.invariant-each_segment_bits-loop-a
invariant-each_segment_bits-loop-a l = OverA l.prefix.design l.prefix.tables l.end l.initial.found l.found l.a
