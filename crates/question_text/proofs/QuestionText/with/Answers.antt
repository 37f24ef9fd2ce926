-- `QuestionText::with` meets its contract: its tests are those of the definition.
use mathlib.Core.List.{[]}
use native.Mathlib.Omega.{arith}
use mathlib.Core.Path.{◌≡◌}
use Prim.Native.Nat.{◌+◌, min}
use borrow.Author.Rules.{rules}
use borrow.Author.Tests.{eq-eqb, ne_eqb}
use lib.ListN.{length}
use Rattle.std.proofs.lemmas.List.{get_or_default, set_past}
use Rattle.word_text.specs.Decimal.{reading_of}
use Rattle.question_text.specs.Question.{number_at, with_character}
use Rattle.question_text.proofs.QuestionText.with.Goals as goal

pub returns-then-c-eq32 : goal.returns-then-c-eq32
unfolding with_character
returns-then-c-eq32 c =
    let spaces : c.min.result ≡ min (c.args.self.spaces + 1) 3 = omega arith in
    rw (eq-eqb _ _ c.if-c-eq32.true, spaces)

pub returns-then-self-lt-TOO_MANY : goal.returns-then-self-lt-TOO_MANY
unfolding with_character number_at
returns-then-self-lt-TOO_MANY c =
    let s = c.args.self in
    let full : length s.numbers ≡ 3 = search rules in
    rw (ne_eqb _ _ c.if-c-eq32.false, c.with.ensures, get_or_default s.numbers s.spaces _ (reading_of []) (omega arith))

pub returns-else-self-lt-TOO_MANY : goal.returns-else-self-lt-TOO_MANY
unfolding with_character
returns-else-self-lt-TOO_MANY c =
    let s = c.args.self in
    let full : length s.numbers ≡ 3 = search rules in
    rw (ne_eqb _ _ c.if-c-eq32.false, set_past s.numbers s.spaces _ (omega arith))
