-- `records::extent_of` meets its contract: the two calls count the entries.
use native.Mathlib.Omega.{arith}
use Rattle.design.specs.Stored.{initial_count}
use Rattle.design.proofs.LegalLaws.{limits}
use Rattle.design.proofs.StoredLaws.{offset-total-small, initial-count-small}
use Rattle.records.specs.SetBytes.{entry_count}
use Rattle.records.proofs.extent_of.Goals as goal

pub pow2-initials-requires : goal.pow2-initials-requires
pow2-initials-requires c = omega (arith, (limits _ c.args.legal.legal).alpha-high)

pub overflow_add-result : goal.overflow_add-result
unfolding initial_count
overflow_add-result c =
    let l = limits _ c.args.legal.legal in
    omega (arith, c.pow2-initials.ensures, c.offset_total.ensures, initial-count-small _ l, offset-total-small _ l)

pub returns : goal.returns
unfolding entry_count initial_count
returns c = rw (c.pow2-initials.ensures, c.offset_total.ensures)
