-- `console::Console::put` meets its contract: the text stands behind what is pending, or goes out by itself.
use mathlib.Core.Path.{ap, refl, ◌∙◌}
use lib.ListN.{length}
use native.Mathlib.Omega.{arith}
use Rattle.console.specs.Blocks.{Blocks}
use Rattle.console.proofs.BlockLaws.{put-out, put_in, part-over, stands}
use Rattle.console.proofs.Console.put.Goals as goal

pub returns-then-is_err-clause-pending : goal.returns-then-is_err-clause-pending
returns-then-is_err-clause-pending g c =
    let seen = c.self.view_is in
    put-out c.args.self.now _ c.args.text.now c.make_room.ensures _ _ (ap (λ (b : Blocks). b.pending) seen)
    (ap (λ (b : Blocks). b.output) seen) c.if-self-text.true

pub returns-else-is_err-clause-pending : goal.returns-else-is_err-clause-pending
returns-else-is_err-clause-pending g c =
    put-out c.args.self.now _ c.args.text.now c.make_room.ensures _ _ refl refl (rw (← c.self.view_is) c.if-self-text.true)

pub returns-clause-pending : goal.returns-clause-pending
returns-clause-pending g c =
    let seen = c.self.view_is in
    let text = c.args.text.now in
    let pending-is = ap (λ (b : Blocks). b.pending) seen in
    let output-is = ap (λ (b : Blocks). b.output) seen ∙ (stands c.args.self.now _ text c.make_room.ensures).0 in
    put_in c.args.self.now c.make_room.new.self text c.make_room.ensures
    (omega (arith, pending-is, ap length output-is, c.if-self-text.false, c.self.invariant)) _ _ (rw pending-is)
    (part-over _ text _ _ _ c.copy_from_slice.ensures.after (omega arith) ∙ rw (pending-is, output-is))
