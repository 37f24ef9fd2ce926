-- `lines::offset_slot` meets its contract: each table ends at the place or before until the one that the place lies in.
use Rattle.lines.proofs.TableLaws.{search-start, search-step, search-end, search-within}
use Rattle.lines.proofs.offset_slot.Goals as goal

pub loop-table-init : goal.loop-table-init
loop-table-init c = search-start _ _

pub returns-then-index-count : goal.returns-then-index-count
returns-then-index-count c =
    search-end _ c.loop-table.invariant c.offset_count-count.ensures c.loop-table-test.true c.if-index-count.true

pub loop-table-preserved : goal.loop-table-preserved
loop-table-preserved c = search-step _ c.loop-table.invariant c.offset_count-count.ensures c.if-index-count.false

pub unreachable-requires : goal.unreachable-requires
unreachable-requires c = search-within _ c.loop-table.invariant c.requires c.loop-table-test.false
