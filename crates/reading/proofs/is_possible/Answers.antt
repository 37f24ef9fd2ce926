-- `reading::is_possible` meets its contract: with a line taken the design is tried, and then the number of lines.
use Rattle.std.specs.Prelude.{Err}
use mathlib.Core.Path.{◌≡◌, sym}
use mathlib.Core.Bool.{false, ◌&&◌}
use native.Mathlib.Omega.{arith}
use lib.Dec.{leb}
use Rattle.refusal.specs.declared.Cause.{Cause}
use Rattle.refusal.specs.Checks.{passes}
use Rattle.design.specs.Legal.{design_verdict, Legal}
use Rattle.lines.specs.Slots.{line_count}
use Rattle.reading.specs.declared.Reading.{Reading}
use Rattle.reading.specs.ReadLine.{possible}
use Rattle.reading.proofs.ReadLaws.{first-possible, later-possible}
use Rattle.reading.proofs.is_possible.Goals as goal

-- A line is taken: the design is tried,
module _ (state : Reading) (some : state.taken ≡ 0 → ⊥) where
  tried : possible state ≡ passes (design_verdict state.design) && leb state.taken (line_count state.design)
  tried = later-possible state (omega arith)

  illegal : (cause : Cause) → design_verdict state.design ≡ Err cause → false ≡ possible state
  illegal cause e = rw (tried, e)

  -- and then the number of lines.
  lines-tried : Legal state.design → leb state.taken (line_count state.design) ≡ possible state
  lines-tried e = rw (tried, e)

pub returns-then-state-eq0 : goal.returns-then-state-eq0
returns-then-state-eq0 c = sym (first-possible _ c.if-state-eq0.true)

pub returns-in-Ok : goal.returns-in-Ok
returns-in-Ok c =
    let verdict = rw c.in-Ok.is at c.checked.ensures.verdict in
    let same = rw c.in-Ok.is at c.checked.ensures.same in
    rw (c.line_count.ensures, same) (lines-tried c.args.state c.if-state-eq0.false (sym verdict))

pub returns-in-Err : goal.returns-in-Err
returns-in-Err c = illegal _ c.if-state-eq0.false _ (sym (rw c.in-Err.is at c.checked.ensures.verdict))
