-- When the input is a whole file of sets.
use Rattle.std.specs.Prelude.{Bool, true, false, ◌&&◌, Result, Ok, Err}
use Rattle.refusal.specs.declared.Cause.{Cause}
use Rattle.reading.specs.declared.Reading.{Reading}
use Rattle.reading.specs.ReadLine.{between}

-- The input ended, and not inside a set: no line is taken, or the last line finished one. Without any set it is not whole. The first is
-- whether a set came, or the cause for which a line is refused.
abbrev pub is_whole : Result Bool Cause → Bool → Reading → Bool
is_whole (Ok true) any state = false
is_whole (Ok false) any state = any && between state
is_whole (Err cause) any state = false
