-- What a list of checks comes to: nothing turned the input down, or the cause that the first check which did gives.
use Rattle.std.specs.Prelude.{Result}
use Rattle.refusal.specs.declared.Cause.{Cause}

abbrev pub Verdict : Type 0
Verdict = Result (Unit {0}) Cause
