-- `set_console::set_reader::SetReader::take_line` meets its contract: no line came, or it was fed to the reading.
use Rattle.console.proofs.TakeLaws.{takes_none}
use Rattle.set_console.proofs.FeedLaws.{led-line, nothing-came, no-newlines}
use Rattle.set_console.proofs.set_reader.SetReader.take_line.Goals as goal

pub returns-then-self-clause-led : goal.returns-then-self-clause-led
returns-then-self-clause-led g c = nothing-came _ _ _ _ (takes_none _)

pub returns-in_default-clause-led : goal.returns-in_default-clause-led
returns-in_default-clause-led g c = nothing-came _ _ _ _ (rw c.in_default.is at c.read_line.ensures.taken)

pub returns-clause-led : goal.returns-clause-led
returns-clause-led g c =
    let line = c.in-Some.line in
    let read = c.in-Some.ensures in
    let fed = c.feed_line.ensures in
    led-line _ _ (no-newlines line _ read.line) line.end _ _ read.taken read.line.over _ _ _ _ (rw c.text.ensures at fed.reading)
    (rw c.text.ensures at fed.came) fed.counted
