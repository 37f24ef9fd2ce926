-- `lines::line_count` meets its contract: the two calls count the entries, and two more are the first line and the last.
use Prim.Native.Nat.{◌+◌, ◌≤◌}
use native.Mathlib.Omega.{arith}
use Rattle.design.specs.Stored.{initial_count}
use Rattle.design.proofs.LegalLaws.{limits}
use Rattle.lines.specs.Slots.{line_count, most_lines}
use Rattle.lines.proofs.TableLaws.{lines-small}
use Rattle.lines.proofs.line_count.Goals as goal
use Rattle.lines.proofs.line_count.Goals.{After-offset_total}

pub pow2-requires : goal.pow2-requires
pow2-requires c = omega (arith, (limits _ c.args.legal.legal).alpha-high)

-- the entries are few
few : (c : After-offset_total) → c.pow2.result + c.offset_total.result + 2 ≤ most_lines
unfolding line_count initial_count
few c = omega (arith, lines-small _ c.args.legal.legal, c.pow2.ensures, c.offset_total.ensures)

pub overflow_add-result : goal.overflow_add-result
overflow_add-result c = omega (arith, few c)

pub overflow_add-result-2 : goal.overflow_add-result-2
overflow_add-result-2 c = omega (arith, few c)

pub returns : goal.returns
unfolding line_count initial_count
returns c = rw (c.pow2.ensures, c.offset_total.ensures)
