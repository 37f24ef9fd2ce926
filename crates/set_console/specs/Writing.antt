-- What can be said of lines and records that are put one after another.
use Rattle.std.specs.Prelude.{List, [], ◌∷◌, ◌++◌, ℕ}
use Rattle.refusal.specs.Verdict.{Verdict}
use Rattle.refusal.specs.Checks.{if_passed}

-- What is put of a text that a writer is asked for, by the writer's verdict: the text and a newline, or nothing
abbrev pub put_if : Verdict → List ℕ → List ℕ
put_if v text = if_passed v (text ++ 10 ∷ []) (λ cause. [])
