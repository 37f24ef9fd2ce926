-- `QuestionText::question` meets its contract: it asks of the words, in order, what the definition asks.
use Rattle.std.specs.Prelude.{Option, Some, None}
use mathlib.Core.Path.{◌≡◌, refl, sym, ◌∙◌}
use mathlib.Core.List.{[]}
use Prim.Native.Nat.{ℕ, ◌<◌}
use native.Mathlib.Omega.{arith}
use borrow.Author.Rules.{rules}
use borrow.Author.Tests.{eq-eqb, ne_eqb}
use lib.ListN.{length, get_or}
use Rattle.std.proofs.lemmas.List.{get_or_default}
use Rattle.word_text.specs.declared.WordText.{WordText}
use Rattle.word_text.specs.Decimal.{reading_of, word_of}
use Rattle.question_text.specs.declared.QuestionText.{QuestionText}
use Rattle.question_text.specs.Question.{number_at, three_numbers, question_of}
use Rattle.question_text.proofs.QuestionText.question.Goals as goal

module _ (s : QuestionText) (full : length s.numbers ≡ 3) (two : s.spaces ≡ 2) where
  abbrev word : ℕ → Option ℕ
  word n = word_of (number_at s.numbers n)

  -- A word that was found is that of the number at its place.
  found : (n : ℕ) (d : WordText) (r o : Option ℕ) → n < 3 → r ≡ word_of (get_or s.numbers n d) → r ≡ o → word n ≡ o
  unfolding number_at
  found n d r o h e was = rw (get_or_default s.numbers n (reading_of []) d (omega arith)) (sym e ∙ was)

  by-words : (kind w q : Option ℕ) → word 0 ≡ kind → word 1 ≡ w → word 2 ≡ q → three_numbers kind w q ≡ question_of s
  unfolding question_of
  by-words kind w q kind-is w-is q-is = rw (eq-eqb s.spaces 2 two, kind-is, w-is, q-is)

  no-kind : word 0 ≡ None → None ≡ question_of s
  unfolding three_numbers
  no-kind e = by-words None (word 1) (word 2) e refl refl

  no-w : (kind : ℕ) → word 0 ≡ Some kind → word 1 ≡ None → None ≡ question_of s
  unfolding three_numbers
  no-w kind kind-is e = by-words (Some kind) None (word 2) kind-is e refl

  no-q : (kind w : ℕ) → word 0 ≡ Some kind → word 1 ≡ Some w → word 2 ≡ None → None ≡ question_of s
  unfolding three_numbers
  no-q kind w kind-is w-is e = by-words (Some kind) (Some w) None kind-is w-is e

  all-three : (kind w q : ℕ) → word 0 ≡ Some kind → word 1 ≡ Some w → word 2 ≡ Some q
      → Some (record { kind = kind; w = w; q = q }) ≡ question_of s
  unfolding three_numbers
  all-three kind w q kind-is w-is q-is = by-words (Some kind) (Some w) (Some q) kind-is w-is q-is

pub returns-then-self-ne2 : goal.returns-then-self-ne2
unfolding question_of
returns-then-self-ne2 c = rw (ne_eqb _ _ c.if-self-ne2.true)

pub returns-in_err-word : goal.returns-in_err-word
returns-in_err-word c =
    let s = c.args.self in
    let full : length s.numbers ≡ 3 = search rules in
    let two : s.spaces ≡ 2 = omega arith in
    c.from_residual.ensures ∙ no-kind s full two (found s full two 0 _ _ _ (omega arith) c.word.ensures c.in_err-word.was)

pub returns-in_err-word-2 : goal.returns-in_err-word-2
returns-in_err-word-2 c =
    let s = c.args.self in
    let full : length s.numbers ≡ 3 = search rules in
    let two : s.spaces ≡ 2 = omega arith in
    c.from_residual-in_err-word-2.ensures
    ∙ no-w s full two _ (found s full two 0 _ _ _ (omega arith) c.word.ensures c.in_ok-word.was)
    (found s full two 1 _ _ _ (omega arith) c.word-2.ensures c.in_err-word-2.was)

pub returns-in_err-word-3 : goal.returns-in_err-word-3
returns-in_err-word-3 c =
    let s = c.args.self in
    let full : length s.numbers ≡ 3 = search rules in
    let two : s.spaces ≡ 2 = omega arith in
    c.from_residual-in_err-word-3.ensures
    ∙ no-q s full two _ _ (found s full two 0 _ _ _ (omega arith) c.word.ensures c.in_ok-word.was)
    (found s full two 1 _ _ _ (omega arith) c.word-2.ensures c.in_ok-word-2.was)
    (found s full two 2 _ _ _ (omega arith) c.word-3.ensures c.in_err-word-3.was)

pub returns : goal.returns
returns c =
    let s = c.args.self in
    let full : length s.numbers ≡ 3 = search rules in
    let two : s.spaces ≡ 2 = omega arith in
    all-three s full two _ _ _ (found s full two 0 _ _ _ (omega arith) c.word.ensures c.in_ok-word.was)
    (found s full two 1 _ _ _ (omega arith) c.word-2.ensures c.in_ok-word-2.was)
    (found s full two 2 _ _ _ (omega arith) c.word-3.ensures c.in_ok-word-3.was)
