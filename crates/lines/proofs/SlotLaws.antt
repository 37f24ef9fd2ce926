-- Which line holds what: the four kinds of lines, one after another.
use mathlib.Core.Path.{◌≡◌, refl}
use Prim.Native.Nat.{ℕ, zero, suc, ◌+◌, ◌-◌, ◌<◌}
use native.Mathlib.Decide.{dec_lt}
use native.Mathlib.Omega.{arith}
use borrow.Author.Tests.{le-leb, lt-leb, ne_eqb}
use Rattle.design.specs.declared.Design.{Design}
use Rattle.design.specs.Stored.{initial_count, offset_total}
use Rattle.tables.specs.Inputs.{Usable}
use Rattle.lines.specs.declared.Slot.{Slot}
use Rattle.lines.specs.Slots.{line_count, offset_slot, slot_of}
use Rattle.lines.specs.Inputs.{SlotIn}

module _ (d : Design) where
  pub slot-first : slot_of d 0 ≡ Slot.Design
  unfolding slot_of
  slot-first = refl

  pub slot-initial : (n index : ℕ) → n ≡ index + 1 → index < initial_count d → slot_of d n ≡ Slot.Initial index
  unfolding slot_of
  slot-initial n index e h =
      let less : n - 1 ≡ index = omega arith in
      rw (ne_eqb n 0 (λ z. omega arith), le-leb n (initial_count d) (omega arith), less)

  pub slot-offset : (n place : ℕ) → n ≡ initial_count d + 1 + place → place < offset_total d → slot_of d n ≡ offset_slot d place
  unfolding slot_of
  slot-offset n place e h =
      let less : n - 1 - initial_count d ≡ place = omega arith in
      rw (
        ne_eqb n 0 (λ z. omega arith),
        lt-leb n (initial_count d) (omega arith),
        le-leb n (initial_count d + offset_total d) (omega arith),
        less,
      )

  pub slot-last : (n : ℕ) → n ≡ initial_count d + offset_total d + 1 → slot_of d n ≡ Slot.End n
  unfolding slot_of
  slot-last n e =
      rw (
        ne_eqb n 0 (λ z. omega arith),
        lt-leb n (initial_count d) (omega arith),
        lt-leb n (initial_count d + offset_total d) (omega arith),
      )

-- What a line of a set holds, one of four
pub data Line (d : Design) (n : ℕ) : Type 0 where
  first-line : n ≡ 0 → Line d n
  initial-line : (index : ℕ) → n ≡ index + 1 → index < initial_count d → Line d n
  offset-line : (place : ℕ) → n ≡ initial_count d + 1 + place → place < offset_total d → Line d n
  last-line : n ≡ initial_count d + offset_total d + 1 → Line d n

pub line-is : (d : Design) (n : ℕ) → n < line_count d → Line d n
unfolding line_count
line-is d zero h = first-line refl
line-is d (suc n) h =
    elim (dec_lt n (initial_count d)) [
      | yes k ↦ initial-line n (omega arith) k
      | no k ↦
          elim (dec_lt n (initial_count d + offset_total d)) [
            | yes l ↦ offset-line (n - initial_count d) (omega arith) (omega arith)
            | no l ↦ last-line (omega arith)
          ]
    ]

-- The entry of a line lies within tables that are long enough.
pub slot-in : (d : Design) (initial offsets n : ℕ) → Usable d initial offsets → n < line_count d → SlotIn (slot_of d n) initial offsets
unfolding offset_slot
slot-in d initial offsets n u h =
    elim (line-is d n h) [
      | first-line e ↦ rw (e, slot-first d) tt
      | initial-line index e k ↦ rw (slot-initial d n index e k) (omega (arith, u.initial-long))
      | offset-line place e k ↦ rw (slot-offset d n place e k) (omega (arith, u.offsets-long))
      | last-line e ↦ rw (slot-last d n e) tt
    ]
