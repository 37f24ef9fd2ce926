-- `set_console::set_lines::SetLines` as `Texts`: `write` gives the lines as `write_line` does.
use Rattle.writing.specs.Write.{write_answer, buffer_after}
use Rattle.set_console.proofs.set_lines.SetLinesTexts.write.Goals as goal

pub returns-clause-answer : goal.returns-clause-answer
unfolding write_answer
returns-clause-answer c = c.write_line.ensures.answer

pub returns-clause-buffer : goal.returns-clause-buffer
unfolding buffer_after
returns-clause-buffer c = c.write_line.ensures.line_buffer
