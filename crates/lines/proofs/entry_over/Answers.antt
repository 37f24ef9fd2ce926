-- `lines::entry_over` meets its contract: it is `entry_over`, case by case.
use mathlib.Core.Path.{◌≡◌, refl, sym, ◌∙◌}
use mathlib.Core.Bool.{false, true≢false}
use Prim.Native.Nat.{ℕ}
use Rattle.design.specs.declared.Design.{Design}
use Rattle.lines.specs.declared.Slot.{Slot}
use Rattle.lines.specs.Lines.{entry_over}
use Rattle.lines.proofs.entry_over.Goals as goal
use Rattle.lines.proofs.entry_over.Goals.{in-Initial, in_default}

other : (d : Design) (number : ℕ) (slot : Slot) → ((index : ℕ) → slot ≡ Slot.Initial index → ⊥) → false ≡ entry_over d slot number
unfolding entry_over
other d number Slot.Design none = refl
other d number (Slot.Initial index) none = absurd (none index refl)
other d number (Slot.Offset table index place) none = refl
other d number (Slot.End before) none = refl

pub returns-then-matches : goal.returns-then-matches
unfolding entry_over
returns-then-matches c =
    elim c.match-matches.branch [ in-Initial w ↦ rw w.in-Initial.is c.initial_over.ensures | in_default w ↦ absurd (true≢false (sym c.if-matches.true ∙ w.matches-is)) ]

pub returns-else-matches : goal.returns-else-matches
unfolding entry_over
returns-else-matches c =
    elim c.match-matches.branch [ in-Initial w ↦ absurd (true≢false (sym w.matches-is ∙ c.if-matches.false)) | in_default w ↦ w.matches-is ∙ other c.args.legal.design c.args.number c.args.slot w.in_default.not-Initial ]
