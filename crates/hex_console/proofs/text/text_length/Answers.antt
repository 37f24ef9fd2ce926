-- `hex_console::text::text_length` meets its contract: a carriage return is dropped only before a newline.
use mathlib.Core.Logic.{inl, inr}
use Rattle.hex_console.specs.LineTexts.{line_text}
use Rattle.hex_console.proofs.text.text_length.Goals as goal

pub returns-in-Newline-clause-bytes_value : goal.returns-in-Newline-clause-bytes_value
unfolding line_text
returns-in-Newline-clause-bytes_value c = rw c.in-Newline.is c.without_return.ensures.bytes_value

pub returns-in-Input-clause-bytes_value : goal.returns-in-Input-clause-bytes_value
unfolding line_text
returns-in-Input-clause-bytes_value c = elim c.in-Input.is [ inl e ↦ rw e | inr e ↦ rw e ]
