-- `exports::dorykleth_check` meets its contract: a design whose set is faithful is legal.
use Rattle.std.specs.Prelude.{Ok}
use mathlib.Core.Path.{sym, ap, ◌∙◌}
use native.Mathlib.Omega.{arith}
use Rattle.exports.proofs.WordCount.{few_bits, faithful-legal}
use Rattle.exports.proofs.dorykleth_check.Goals as goal

pub pow2-requires : goal.pow2-requires
pow2-requires c =
    let faithful = sym c.check.ensures.answer ∙ c.in-Ok-None.is ∙ ap Ok c.in-Ok-None.field-0-is in
    omega (arith, few_bits _ (faithful-legal _ _ _ faithful))
