-- `hex_console::text::read_text` meets its contract: what was read of a line, and what of that stands on it.
use Prim.Native.Nat.{◌+◌, ◌≤◌}
use lib.ListN.{length}
use borrow.Author.Rules.{rules}
use Rattle.records.specs.Record.{longest_record}
use Rattle.hex_console.proofs.TextLaws.{text-read}
use Rattle.hex_console.proofs.text.read_text.Goals as goal

pub returns-clause-read : goal.returns-clause-read
returns-clause-read g c =
    let read = c.in_ok-start.ensures in
    let text = c.text_length-count.ensures in
    let room : longest_record + 2 ≤ length c.read_start.new.bytes = search rules in
    text-read _ c.in_ok-start.start _ _ _ room read.start read.taken text.upper_bound text.bytes_value
