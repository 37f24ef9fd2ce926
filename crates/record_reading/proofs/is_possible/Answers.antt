-- `record_reading::is_possible` meets its contract: the number of records is tried, and then the unused bytes.
use mathlib.Core.Path.{sym, ◌∙◌}
use borrow.Author.Tests.{lt-leb}
use Rattle.record_reading.proofs.StateLaws.{too_many, by-unused}
use Rattle.record_reading.proofs.is_possible.Goals as goal

pub returns-then-state-record_count : goal.returns-then-state-record_count
returns-then-state-record_count c =
    rw (c.unused_fail.ensures, c.held_count.ensures)
    (sym (by-unused _ _ (rw c.record_count.ensures at c.if-state-record_count.true)))

pub returns-else-state-record_count : goal.returns-else-state-record_count
returns-else-state-record_count c =
    lt-leb _ _ c.if-state-record_count.false ∙ sym (too_many _ _ (rw c.record_count.ensures at c.if-state-record_count.false))
