-- `reading::later_line` meets its contract: each check in turn, and after all have passed the entry is stored.
use mathlib.Core.Path.{◌≡◌, ◌∙◌}
use mathlib.Core.Bool.{Bool}
use mathlib.Core.List.{List}
use Prim.Native.Nat.{ℕ, ◌+◌, ◌-◌, ◌*◌, ◌^◌, ◌≤◌, ◌<◌}
use native.Mathlib.Nat.{lt_of_lt_of_le}
use native.Mathlib.Omega.{arith}
use borrow.Author.Rules.{rules}
use lib.IntN.{ℤ}
use lib.ListN.{length, take, drop, length-take}
use lib.Pow.{pow_mono}
use Rattle.general.proofs.Tests.{tested}
use Rattle.design.specs.declared.Design.{Design}
use Rattle.design.specs.Legal.{Legal}
use Rattle.tables.proofs.SetLaws.{usable, set-lengths}
use Rattle.frames.specs.Line.{capacity}
use Rattle.encoding.specs.declared.Frame.{Frame}
use Rattle.encoding.specs.Bytes.{number_in, entry_bytes}
use Rattle.encoding.specs.Inputs.{held}
use Rattle.lines.specs.declared.Slot.{Slot}
use Rattle.lines.specs.Slots.{slot_of}
use Rattle.lines.specs.Lines.{frame_head, entry_width, entry_over}
use Rattle.lines.proofs.SlotLaws.{slot-in}
use Rattle.lines.proofs.TableLaws.{lines-small}
use Rattle.lines.proofs.FrameLaws.{entry-short, frame-short}
use Rattle.reading.specs.ReadLine.{head_fails, entry_in, initial_stored, offsets_stored}
use Rattle.reading.proofs.LineSteps.{
  refused-outcome,
  nothing-due,
  other-due,
  later-over,
  later-short,
  later-accepted,
  accepted-outcome,
}
use Rattle.reading.proofs.later_line.Goals as goal

-- `&bytes[at..at + width]`
abbrev part : ℕ → ℕ → List ℕ → List ℕ
part at width bytes = take (at + width - at) (drop at bytes)

-- What line n holds, and its head, as the calls tell them.
module _ (d : Design) (n : ℕ) (slot : Slot) (head : Frame) (slot_is : slot ≡ slot_of d n) (head-is : held head ≡ frame_head d slot)
    (count-is : head.count ≡ length (frame_head d slot)) where
  due-told : (width : ℕ) (bytes : List ℕ) (count : ℕ) (result answer : Bool) → width ≡ entry_width slot
      → result ≡ head_fails (held head) width bytes count → result ≡ answer
      → head_fails (frame_head d (slot_of d n)) (entry_width (slot_of d n)) bytes count ≡ answer
  due-told width bytes count result answer width_is promise branch =
      rw (head-is, width_is, slot_is) at (tested promise branch)

  -- The frame fits an array without its sum byte,
  frame-fits : (width : ℕ) → Legal d → width ≡ entry_width slot → head.count + width ≤ capacity
  frame-fits width legal width_is = omega (arith, count-is, width_is, frame-short d legal slot)

  -- and the number behind the head is that of the entry.
  number_is : (width : ℕ) (bytes : List ℕ) (result : ℕ) → width ≡ entry_width slot
      → result ≡ number_in (part head.count width bytes) → result ≡ entry_in d (slot_of d n) bytes
  unfolding entry_in
  number_is width bytes result width_is promise =
      let size : head.count + width - head.count ≡ width = omega arith in
      promise ∙ rw (size, width_is, count-is, slot_is)

-- An entry's bytes are so few that the number in them is small.
few : (slot : Slot) (at width : ℕ) (bytes : List ℕ) → width ≡ entry_width slot → length (part at width bytes) ≤ entry_bytes
few slot at width bytes width_is = omega (arith, width_is, entry-short slot, length-take (at + width - at) (drop at bytes))

narrow : (slot : Slot) (at width : ℕ) (bytes : List ℕ) (number : ℕ) → width ≡ entry_width slot
    → number < 2 ^ (8 * length (part at width bytes)) → number < 2 ^ (8 * entry_bytes)
narrow slot at width bytes number width_is h =
    lt_of_lt_of_le h (pow_mono {j = 8 * entry_bytes} (omega (arith, few slot at width bytes width_is)))

-- Whether an entry is over, and what is stored, by the line's own slot and number
module _ (d : Design) (n : ℕ) (slot : Slot) (number : ℕ) (bytes : List ℕ) (slot_is : slot ≡ slot_of d n)
    (is : number ≡ entry_in d (slot_of d n) bytes) where
  over-told : (result answer : Bool) → result ≡ entry_over d slot number → result ≡ answer
      → entry_over d (slot_of d n) (entry_in d (slot_of d n) bytes) ≡ answer
  over-told result answer promise branch = rw (is, slot_is) at (tested promise branch)

  stored : (initial initial-after : List ℕ) (offsets offsets-after : List ℤ)
      → (initial-after ≡ initial_stored slot number initial) × (offsets-after ≡ offsets_stored slot number offsets)
      → let entry = entry_in d (slot_of d n) bytes in
      (initial-after ≡ initial_stored (slot_of d n) entry initial) × (offsets-after ≡ offsets_stored (slot_of d n) entry offsets)
  stored initial initial-after offsets offsets-after promise = rw (is, slot_is) at promise

pub returns-then-line_count-state : goal.returns-then-line_count-state
returns-then-line_count-state c =
    refused-outcome _ c.args.initial.now c.args.offsets.now _ _
    (nothing-due _ _ (search rules) c.requires.sound _ c.requires.begun _ _ (rw c.line_count.ensures at c.if-line_count-state.true))

pub head_fails-requires : goal.head_fails-requires
head_fails-requires c =
    frame-fits _ _ _ _ c.slot_of-slot.ensures c.head_of-head.ensures.result_value c.head_of-head.ensures.count_value _
    c.requires.begun.legal c.entry_width-width.ensures

pub returns-then-head_fails : goal.returns-then-head_fails
returns-then-head_fails c =
    refused-outcome _ c.args.initial.now c.args.offsets.now _ _
    (other-due _ _ (search rules) c.requires.sound _ c.requires.begun _ _ (due-told _ _ _ _ c.slot_of-slot.ensures c.head_of-head.ensures.result_value c.head_of-head.ensures.count_value _ _ _ _ _ c.entry_width-width.ensures c.head_fails.ensures c.if-head_fails.true))

pub overflow_add-head : goal.overflow_add-head
overflow_add-head c =
    let fits = frame-fits _ _ _ _ c.slot_of-slot.ensures c.head_of-head.ensures.result_value c.head_of-head.ensures.count_value _
    c.requires.begun.legal c.entry_width-width.ensures in
    omega (arith, fits)

pub slice_bounds-number_in-end : goal.slice_bounds-number_in-end
slice_bounds-number_in-end c =
    let full : length c.args.frame.bytes ≡ capacity = search rules in
    let fits = frame-fits _ _ _ _ c.slot_of-slot.ensures c.head_of-head.ensures.result_value c.head_of-head.ensures.count_value _
    c.requires.begun.legal c.entry_width-width.ensures in
    omega (arith, full, fits)

pub number_in-number-requires : goal.number_in-number-requires
number_in-number-requires c =
    omega (arith, few _ c.head_of-head.result.count _ c.args.frame.bytes c.entry_width-width.ensures)

pub returns-then-over : goal.returns-then-over
returns-then-over c =
    refused-outcome _ c.args.initial.now c.args.offsets.now _ _
    (later-over _ _ (search rules) c.requires.sound _ c.requires.begun _ _ (rw c.line_count.ensures at c.if-line_count-state.false) (due-told _ _ _ _ c.slot_of-slot.ensures c.head_of-head.ensures.result_value c.head_of-head.ensures.count_value _ _ _ _ _ c.entry_width-width.ensures c.head_fails.ensures c.if-head_fails.false)
    (over-told _ _ _ _ _ c.slot_of-slot.ensures (number_is _ _ _ _ c.slot_of-slot.ensures c.head_of-head.ensures.result_value c.head_of-head.ensures.count_value _ _ _ c.entry_width-width.ensures c.number_in-number.ensures.value) _ _ c.entry_over-over.ensures c.if-over.true))

pub returns-then-short : goal.returns-then-short
returns-then-short c =
    refused-outcome _ c.args.initial.now c.args.offsets.now _ _
    (later-short _ _ (search rules) c.requires.sound _ c.requires.begun _ _ (rw c.line_count.ensures at c.if-line_count-state.false) (due-told _ _ _ _ c.slot_of-slot.ensures c.head_of-head.ensures.result_value c.head_of-head.ensures.count_value _ _ _ _ _ c.entry_width-width.ensures c.head_fails.ensures c.if-head_fails.false)
    (over-told _ _ _ _ _ c.slot_of-slot.ensures (number_is _ _ _ _ c.slot_of-slot.ensures c.head_of-head.ensures.result_value c.head_of-head.ensures.count_value _ _ _ c.entry_width-width.ensures c.number_in-number.ensures.value) _ _ c.entry_over-over.ensures (search rules)) (tested c.tables_short-short.ensures c.if-short.true))

pub store-requires : goal.store-requires
store-requires c =
    let b = c.requires.begun in record {
      slot_in = rw c.slot_of-slot.ensures
          (slot-in _ _ _ _ (usable _ _ _ (set-lengths _ _ _ _ b.legal (tested c.tables_short-short.ensures c.if-short.false))) (rw c.line_count.ensures at c.if-line_count-state.false));
      number_bound = narrow c.slot_of-slot.result _ _ _ _ c.entry_width-width.ensures c.number_in-number.ensures.upper_bound;
    }

-- where the entry is stored
pub overflow_add-result : goal.overflow_add-result
overflow_add-result c =
    omega (arith, c.requires.begun.within, lines-small _ c.requires.begun.legal)

pub returns : goal.returns
returns c =
    let due = (due-told _ _ _ _ c.slot_of-slot.ensures c.head_of-head.ensures.result_value c.head_of-head.ensures.count_value _ _ _ _ _ c.entry_width-width.ensures c.head_fails.ensures c.if-head_fails.false) in
    let below = (over-told _ _ _ _ _ c.slot_of-slot.ensures (number_is _ _ _ _ c.slot_of-slot.ensures c.head_of-head.ensures.result_value c.head_of-head.ensures.count_value _ _ _ c.entry_width-width.ensures c.number_in-number.ensures.value) _ _ c.entry_over-over.ensures c.if-over.false) in
    let passed = later-accepted _ _ (search rules) c.requires.sound _ c.requires.begun _ _ (rw c.line_count.ensures at c.if-line_count-state.false) due below (tested c.tables_short-short.ensures c.if-short.false) in
    let told = accepted-outcome _ c.requires.begun c.args.initial.now c.args.offsets.now _ _ due passed in
    let tables = stored _ _ _ _ _ c.slot_of-slot.ensures (number_is _ _ _ _ c.slot_of-slot.ensures c.head_of-head.ensures.result_value c.head_of-head.ensures.count_value _ _ _ c.entry_width-width.ensures c.number_in-number.ensures.value) _ _ _ _ (c.store.ensures.initial_after, c.store.ensures.offsets_after) in
    record { value = told.value; initial_after = tables.0 ∙ told.initial_after; offsets_after = tables.1 ∙ told.offsets_after }

pub invariant_of-legal : goal.invariant_of-legal
invariant_of-legal c = record { legal = c.requires.begun.legal }
