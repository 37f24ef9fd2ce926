-- `set_console::set_lines::put_line` meets its contract: the buffer has room for the longest line and a newline.
use native.Mathlib.Omega.{arith}
use Rattle.set_console.proofs.set_lines.put_line.Goals as goal

pub put_text-requires : goal.put_text-requires
put_text-requires g c = omega arith
