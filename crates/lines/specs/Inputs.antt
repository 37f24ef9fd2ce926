-- What inner calls may count on. Their callers are proved to see to it.
use Rattle.std.specs.Prelude.{ℕ, ◌<◌}
use Rattle.lines.specs.declared.Slot.{Slot}

-- The entry of a line lies within tables of these lengths.
abbrev pub SlotIn : Slot → ℕ → ℕ → Type 0
SlotIn Slot.Design initial offsets = Unit {0}
SlotIn (Slot.Initial index) initial offsets = index < initial
SlotIn (Slot.Offset table index place) initial offsets = place < offsets
SlotIn (Slot.End before) initial offsets = Unit {0}
