-- `writing::write_line` meets its contract: the verdict of the set, then the number, the entry, the room, the line.
use Rattle.std.proofs.lemmas.Result.{err_from_is_err_and}
use Rattle.std.specs.Prelude.{Ok}
use mathlib.Core.Path.{◌≡◌, sym, ap, ◌∙◌}
use mathlib.Core.List.{List}
use Prim.Native.Nat.{ℕ, ◌<◌}
use native.Mathlib.Omega.{arith}
use borrow.Author.Tests.{lt-ltb, le-ltb}
use lib.IntN.{ℤ}
use lib.ListN.{length}
use Rattle.general.specs.Lists.{over}
use Rattle.refusal.specs.Checks.{verdict}
use Rattle.refusal.proofs.Answers.{answer-refused, answer-given}
use Rattle.design.specs.declared.Design.{Design}
use Rattle.tables.specs.Inputs.{Usable}
use Rattle.tables.specs.Set.{set_checks}
use Rattle.tables.proofs.SetLaws.{usable}
use Rattle.encoding.specs.declared.Frame.{Frame}
use Rattle.encoding.specs.Inputs.{held}
use Rattle.lines.specs.declared.Slot.{Slot}
use Rattle.lines.specs.Slots.{line_count, slot_of}
use Rattle.lines.specs.Lines.{frame_head, entry_width}
use Rattle.lines.proofs.SlotLaws.{slot-in}
use Rattle.writing.proofs.WriteLaws.{refused-before, past-set, entry-refused, Asked, asked-narrow, asked-short, asked-length, asked-room, asked-line, refuses, writes}
use Rattle.writing.proofs.write_line.Goals as goal

-- The set's verdict passed.
set : {d : Design} {initial offsets : ℕ} → Ok tt ≡ verdict (set_checks d initial offsets) → Usable d initial offsets
set passed = usable _ _ _ (sym passed)

pub returns-in_err-legal : goal.returns-in_err-legal
returns-in_err-legal c =
    let r = err_from_is_err_and c.from_residual.result c.from_residual.ensures.1 in
    rw (r.1, r.2) (refuses _ _ _ _ _ (refused-before _ _ _ _ _ (sym c.in_err-legal.ensures.verdict)))

pub returns-then-line_count-number : goal.returns-then-line_count-number
returns-then-line_count-number c =
    let u = set c.in_ok-legal.ensures.verdict in
    refuses _ _ _ _ _ (past-set _ _ _ _ _ u (omega (arith, rw c.in_ok-legal.ensures.same at c.line_count.ensures, c.if-line_count-number.true)))

pub slot_of-slot-requires : goal.slot_of-slot-requires
slot_of-slot-requires c = omega (arith, c.line_count.ensures, c.if-line_count-number.false)

pub asked_number-requires : goal.asked_number-requires
asked_number-requires c =
    let u = set c.in_ok-legal.ensures.verdict in
    let within : c.args.number < line_count c.args.d = omega (arith, rw c.in_ok-legal.ensures.same at c.line_count.ensures, c.if-line_count-number.false) in
    rw (rw c.in_ok-legal.ensures.same at c.slot_of-slot.ensures) (slot-in _ _ _ _ u within)

pub returns-in_err-entry : goal.returns-in_err-entry
returns-in_err-entry c =
    let r = err_from_is_err_and c.from_residual-in_err-entry.result c.from_residual-in_err-entry.ensures.1 in
    let u = set c.in_ok-legal.ensures.verdict in
    let within : c.args.number < line_count c.args.d = omega (arith, rw c.in_ok-legal.ensures.same at c.line_count.ensures, c.if-line_count-number.false) in
    let wrong = answer-refused _ _ (sym (rw c.in_ok-legal.ensures.same at c.asked_number.ensures) ∙ c.in_err-entry.was) in
    rw (r.1, r.2) (refuses _ _ _ _ _ (entry-refused _ _ _ _ _ u within (rw (rw c.in_ok-legal.ensures.same at c.slot_of-slot.ensures) at wrong)))

-- The line is known up to its entry.
asked : {d l : Design} {initial : List ℕ} {offsets : List ℤ} {n count : ℕ} {slot : Slot} {head : Frame} {width : ℕ}
    → record { verdict : Ok tt ≡ verdict (set_checks d (length initial) (length offsets)); same : l ≡ d } → count ≡ line_count l → n < count
    → slot ≡ slot_of l n → record { result_value : held head ≡ frame_head l slot; count_value : head.count ≡ length (frame_head l slot) }
    → width ≡ entry_width slot → Asked d initial offsets n slot head width
asked legal count-is less slot_is head-is width_is = record {
  set = set legal.verdict;
  within = omega (arith, rw legal.same at count-is);
  slot_is = rw legal.same at slot_is;
  head-is = rw legal.same at head-is.result_value;
  count-is = rw legal.same at head-is.count_value;
  width_is = width_is;
}

pub overflow_add-digits : goal.overflow_add-digits
overflow_add-digits c = omega (arith, asked-short (asked c.in_ok-legal.ensures c.line_count.ensures c.if-line_count-number.false c.slot_of-slot.ensures c.head_of-head.ensures c.entry_width-width.ensures))

pub overflow_add-digits-2 : goal.overflow_add-digits-2
overflow_add-digits-2 c = omega (arith, asked-short (asked c.in_ok-legal.ensures c.line_count.ensures c.if-line_count-number.false c.slot_of-slot.ensures c.head_of-head.ensures c.entry_width-width.ensures))

pub overflow_mul-digits : goal.overflow_mul-digits
overflow_mul-digits c = omega (arith, asked-short (asked c.in_ok-legal.ensures c.line_count.ensures c.if-line_count-number.false c.slot_of-slot.ensures c.head_of-head.ensures c.entry_width-width.ensures))

pub returns-then-line-digits : goal.returns-then-line-digits
returns-then-line-digits c =
    let passed = answer-given _ _ (sym (rw c.in_ok-legal.ensures.same at c.asked_number.ensures) ∙ c.in_ok-entry.was) in
    refuses _ _ _ _ _ (asked-room (asked c.in_ok-legal.ensures c.line_count.ensures c.if-line_count-number.false c.slot_of-slot.ensures c.head_of-head.ensures c.entry_width-width.ensures) _ _ passed.0 (lt-ltb _ _ c.if-line-digits.true))

pub with-frame-requires : goal.with-frame-requires
with-frame-requires c =
    let a = (asked c.in_ok-legal.ensures c.line_count.ensures c.if-line_count-number.false c.slot_of-slot.ensures c.head_of-head.ensures c.entry_width-width.ensures) in
    record { narrow = omega (arith, asked-narrow a); room = omega (arith, asked-short a) }

pub put_line-requires : goal.put_line-requires
put_line-requires c =
    record {
      short = omega (arith, c.with-frame.ensures.count_value, asked-short (asked c.in_ok-legal.ensures c.line_count.ensures c.if-line_count-number.false c.slot_of-slot.ensures c.head_of-head.ensures c.entry_width-width.ensures));
      long = omega (arith, c.with-frame.ensures.count_value, c.if-line-digits.false);
    }

pub returns : goal.returns
returns c =
    let a = (asked c.in_ok-legal.ensures c.line_count.ensures c.if-line_count-number.false c.slot_of-slot.ensures c.head_of-head.ensures c.entry_width-width.ensures) in
    let passed = answer-given _ _ (sym (rw c.in_ok-legal.ensures.same at c.asked_number.ensures) ∙ c.in_ok-entry.was) in
    writes _ _ _ _ _ (asked-room a _ _ passed.0 (le-ltb _ _ c.if-line-digits.false)) (asked-length a)
    (c.put_line.ensures ∙ ap (over _ 0) (asked-line a c.with-frame.ensures.result_value (sym passed.1)))
