-- `lines::slot_of` meets its contract: each `return` is one of the four kinds of lines.
use mathlib.Core.Path.{◌≡◌, sym, ◌∙◌}
use native.Mathlib.Omega.{arith}
use Rattle.design.specs.Stored.{initial_count}
use Rattle.design.proofs.LegalLaws.{limits}
use Rattle.design.proofs.StoredLaws.{offset-total-small, initial-count-small}
use Rattle.lines.specs.Slots.{line_count}
use Rattle.lines.proofs.SlotLaws.{slot-first, slot-initial, slot-offset, slot-last}
use Rattle.lines.proofs.TableLaws.{lines-small}
use Rattle.lines.proofs.slot_of.Goals as goal
use Rattle.lines.proofs.slot_of.Goals.{After-pow2-entries}

pub returns-then-n-eq0 : goal.returns-then-n-eq0
returns-then-n-eq0 c = rw (c.if-n-eq0.true, slot-first _)

pub overflow_cast-line : goal.overflow_cast-line
overflow_cast-line c = omega (arith, c.requires, lines-small _ c.args.legal.legal)

pub pow2-entries-requires : goal.pow2-entries-requires
pow2-entries-requires c = omega (arith, (limits _ c.args.legal.legal).alpha-high)

-- the call counts the initial entries
entries-are : (c : After-pow2-entries) → c.pow2-entries.result ≡ initial_count c.args.legal.design
unfolding initial_count
entries-are c = c.pow2-entries.ensures

pub overflow_cast-entries : goal.overflow_cast-entries
overflow_cast-entries c = omega (arith, entries-are c, initial-count-small _ (limits _ c.args.legal.legal))

pub returns-then-line-entries : goal.returns-then-line-entries
returns-then-line-entries c = sym (slot-initial _ _ _ (omega arith) (omega (arith, entries-are c.before)))

pub overflow_add-entries : goal.overflow_add-entries
overflow_add-entries c =
    let l = limits _ c.args.legal.legal in
    omega (arith, entries-are c.before.before, initial-count-small _ l, c.offset_total.ensures, offset-total-small _ l)

pub returns-then-line-entries-2 : goal.returns-then-line-entries-2
returns-then-line-entries-2 c =
    c.offset_slot.ensures
    ∙ sym (slot-offset _ _ _ (omega (arith, entries-are c.before.before.before.before)) (omega (arith, c.offset_total.ensures)))

pub returns : goal.returns
unfolding line_count
returns c =
    sym (slot-last _ _ (omega (arith, entries-are c.before.before.before, c.offset_total.ensures, c.requires)))
