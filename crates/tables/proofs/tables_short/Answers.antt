-- `tables::tables_short` meets its contract: either length decides it.
use mathlib.Core.Path.{sym, ◌∙◌}
use native.Mathlib.Omega.{arith}
use borrow.Author.Tests.{lt-ltb}
use Rattle.design.specs.Stored.{initial_count}
use Rattle.design.proofs.LegalLaws.{limits}
use Rattle.tables.proofs.SetLaws.{initial-short, offsets-tried}
use Rattle.tables.proofs.tables_short.Goals as goal

pub pow2-requires : goal.pow2-requires
pow2-requires c = omega (arith, limits _ c.args.legal.legal)

pub returns-then-initial-pow2 : goal.returns-then-initial-pow2
unfolding initial_count
returns-then-initial-pow2 c =
    let h = c.if-initial-pow2.true in
    lt-ltb _ _ h ∙ sym (initial-short _ _ _ (rw c.pow2.ensures at h))

pub returns-else-initial-pow2 : goal.returns-else-initial-pow2
unfolding initial_count
returns-else-initial-pow2 c =
    let a = c.args in
    let long = rw c.pow2.ensures at c.if-initial-pow2.false in
    rw c.offset_total.ensures (sym (offsets-tried a.legal.design a.initial a.offsets long))
