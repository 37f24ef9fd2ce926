-- `values::parts::Argument::scaled` meets its contract: the value's part over the divisor's, which is not 0, and a power of two where the function
-- rises.
use Rattle.values.specs.Parts.{divisor_part}
use Rattle.values.proofs.PartLaws.{scaled-parts, divisor-part-pos}
use Rattle.values.proofs.parts.Argument.scaled.Goals as goal

pub nonzero_div-result : goal.nonzero_div-result
nonzero_div-result c =
    let p = c.requires in
    rw c.divisor_part.ensures (divisor-part-pos _ _ _ _ p.lawful p.range)

pub returns-then-self : goal.returns-then-self
unfolding divisor_part
returns-then-self c = simp (scaled-parts, c.value_part-value.ensures, c.saturating_sub.ensures, c.if-self.true)

pub returns-else-self : goal.returns-else-self
returns-else-self c = simp (scaled-parts, c.value_part-value.ensures, c.divisor_part.ensures)
