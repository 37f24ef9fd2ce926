-- `design::LegalDesign::offset_count` meets its contract: the pair is the table's, and it has few bits.
use mathlib.Core.Path.{sym, ◌∙◌}
use Prim.Native.Nat.{◌+◌, ◌≤◌}
use native.Mathlib.Omega.{arith}
use Rattle.design.specs.Limits.{most_table_bits}
use Rattle.design.proofs.LegalLaws.{limits}
use Rattle.design.proofs.StoredLaws.{count-is}
use Rattle.design.proofs.LegalDesign.offset_count.Goals as goal
use Rattle.design.proofs.LegalDesign.offset_count.Goals.{After-struct_known-1}

pub pair-pair-requires : goal.pair-pair-requires
pair-pair-requires c = c.requires

-- the bits of the table
few_bits : (c : After-struct_known-1) → c.pair-pair.result.a + c.pair-pair.result.b ≤ most_table_bits
few_bits c =
    let start = c.before.before in
    rw c.pair-pair.ensures ((limits _ start.args.self.legal).table _ start.requires).sum-high

pub overflow_add-pair : goal.overflow_add-pair
overflow_add-pair c = omega (arith, few_bits c)

pub pow2-requires : goal.pow2-requires
pow2-requires c = omega (arith, few_bits c)

pub returns : goal.returns
returns c =
    let start = c.before.before.before in
    rw c.pair-pair.ensures at c.pow2.ensures ∙ sym (count-is start.args.self.design start.args.i)
