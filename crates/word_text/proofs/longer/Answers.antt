-- `word_text::longer` meets its contract: a digit is one of the definition, and the two steps find the overflow that it finds.
use mathlib.Core.Path.{◌≡◌, sym, ap, ◌∙◌}
use Prim.Native.Nat.{◌+◌, ◌-◌, ◌*◌}
use native.Mathlib.Omega.{arith}
use Rattle.word_text.specs.Decimal.{if_word}
use Rattle.word_text.proofs.DecimalLaws.{below-digits, above-digits, no-number, one-digit-more, from-limit, checked}
use Rattle.word_text.proofs.longer.Goals as goal

pub returns-in_default : goal.returns-in_default
returns-in_default c = below-digits _ _ (omega arith)

pub returns-in_default-2 : goal.returns-in_default-2
returns-in_default-2 c = above-digits _ _ (omega arith)

pub returns-in_err-number : goal.returns-in_err-number
returns-in_err-number c = c.from_residual.ensures ∙ no-number _ _ (omega arith) (omega arith) c.in_err-number.was

pub returns-in_err-checked_mul : goal.returns-in_err-checked_mul
returns-in_err-checked_mul c =
    let n = c.in_ok-number.field-0 in
    c.from_residual-in_err-checked_mul.ensures
    ∙ sym (from-limit (10 * n + (c.args.c - 48)) (omega (arith, c.in_err-checked_mul.ensures)))
    ∙ one-digit-more _ _ (omega arith) (omega arith) n c.in_ok-number.was

pub returns : goal.returns
returns c =
    let n = c.in_ok-number.field-0 in
    let sum : c.in_ok-checked_mul.field-0 + c.from.result ≡ 10 * n + (c.args.c - 48) = omega (arith, c.in_ok-checked_mul.ensures) in
    checked _ _ c.checked_add.ensures ∙ ap if_word sum ∙ one-digit-more _ _ (omega arith) (omega arith) n c.in_ok-number.was
