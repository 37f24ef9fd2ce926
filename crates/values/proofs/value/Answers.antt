-- `values::value` meets its contract: the verdict of the widths, then the test of the word, then the floor value.
use Rattle.std.specs.Prelude.{Result, Ok, Err}
use mathlib.Core.Path.{◌≡◌, sym, ap, ◌∙◌}
use Prim.Native.Nat.{ℕ, ◌+◌, ◌^◌, ◌≤◌, ◌<◌}
use native.Mathlib.Omega.{arith}
use borrow.Author.Tests.{le-leb, lt-leb}
use Rattle.refusal.specs.declared.Cause.{Cause}
use Rattle.refusal.specs.Checks.{verdict}
use Rattle.refusal.specs.Told.{told_by}
use Rattle.std.proofs.lemmas.Result.{err_from_is_err_and}
use Rattle.refusal.proofs.Checks.{verdict-append}
use Rattle.refusal.proofs.Answers.{answer-told}
use Rattle.values.specs.declared.FloorValue.{FloorValue}
use Rattle.values.specs.Rows.{row_of}
use Rattle.values.specs.Floor.{floor_and_whole}
use Rattle.values.specs.Inputs.{FloorInput}
use Rattle.values.specs.Widths.{limits_of, width_checks}
use Rattle.values.specs.Value.{value_verdict, value_of, word_check, value_told}
use Rattle.values.proofs.Bounds.{words-few}
use Rattle.values.proofs.WidthLaws.{Widths, widths-of}
use Rattle.values.proofs.value.Goals as goal
use Rattle.values.proofs.value.Goals.{After-width_verdict, In_ok-width_verdict}

-- The answer by the verdict of the widths and the test of the word.
module _ (kind w q g x : ℕ) where
  -- what is promised of an answer
  abbrev Promised : Result FloorValue Cause → Type 0
  Promised r = (r ≡ value_of kind w q g x) × (told_by r ≡ value_told kind w q g x)

  promised : (r : Result FloorValue Cause) → r ≡ value_of kind w q g x → Promised r
  unfolding value_of value_told
  promised r e = (e, ap told_by e ∙ answer-told (value_verdict kind w q g x) _)

  refused : (cause : Cause) → verdict (width_checks (limits_of kind) kind w q g) ≡ Err cause → Promised (Err cause)
  unfolding value_of value_verdict word_check
  refused cause e = promised _ (rw (verdict-append, e))

  module _ (passed : verdict (width_checks (limits_of kind) kind w q g) ≡ (Ok tt)) where
    past : 2 ^ w ≤ x → Promised (Err Cause.WordRange)
    unfolding value_of value_verdict word_check
    past h = promised _ (rw (verdict-append, passed, le-leb _ _ h))

    within : x < 2 ^ w → (floor : FloorValue) → floor ≡ floor_and_whole (row_of kind) w (q + g) (2 ^ w + x) → Promised (Ok floor)
    unfolding value_of value_verdict word_check
    within h floor e = promised _ (rw (verdict-append, passed, lt-leb _ _ h, e))

    fits : x < 2 ^ w → FloorInput (row_of kind) w (q + g) (2 ^ w + x)
    fits h =
        let widths = widths-of kind w q g passed in
        record {
          lawful = widths.lawful;
          room = widths.room;
          range = record { low = omega arith; high = omega arith };
        }

-- the verdict of the widths, by the limits of the kind
judged : (c : After-width_verdict) → let a = c.args in
    c.width_verdict.result ≡ verdict (width_checks (limits_of a.kind) a.kind a.w a.q a.g)
judged c = rw (← c.limits_of.ensures) c.width_verdict.ensures

-- where they passed
passed : (c : In_ok-width_verdict) → let a = c.args in
    verdict (width_checks (limits_of a.kind) a.kind a.w a.q a.g) ≡ (Ok tt)
passed c = sym (judged c.before.before) ∙ c.in_ok-width_verdict.was

limits : (c : In_ok-width_verdict) → let a = c.args in Widths a.kind a.w a.q a.g
limits c = widths-of _ _ _ _ (passed c)

pub returns-in_err-width_verdict : goal.returns-in_err-width_verdict
returns-in_err-width_verdict c =
    let r = err_from_is_err_and c.from_residual.result c.from_residual.ensures.1 in
    let p = refused _ _ _ _ _ _ (sym (judged c.before.before.before) ∙ c.in_err-width_verdict.was) in
    rw (r.1, r.2) (record { answer = p.0; told = p.1 })

pub pow2-one-requires : goal.pow2-one-requires
pow2-one-requires c = omega (arith, limits c)

pub returns-then-one-word : goal.returns-then-one-word
returns-then-one-word c = let p = past _ _ _ _ _ (passed c.before.before) (omega (arith, c.pow2-one.ensures)) in record { answer = p.0; told = p.1 }

pub returns : goal.returns
returns c = let p = within _ _ _ _ _ (passed c.before.before.before.before)
    (rw c.pow2-one.ensures at c.if-one-word.false) _
    (rw (c.row_of.ensures, c.pow2-one.ensures) at c.floor_and_whole.ensures) in record { answer = p.0; told = p.1 }

pub row_of-requires : goal.row_of-requires
row_of-requires c = (limits c.before.before).kind-known

pub overflow_add-q : goal.overflow_add-q
overflow_add-q c = omega (arith, limits c.before.before.before)

pub overflow_add-argument : goal.overflow_add-argument
overflow_add-argument c = omega (arith, words-few (limits c.before.before.before).room)

pub floor_and_whole-requires : goal.floor_and_whole-requires
floor_and_whole-requires c =
    rw (c.row_of.ensures, c.pow2-one.ensures)
    (fits _ _ _ _ _ (passed c.before.before.before) (rw c.pow2-one.ensures at c.if-one-word.false))
