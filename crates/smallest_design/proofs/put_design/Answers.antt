-- `smallest_design::put_design` is safe: the line of a legal design has at most 32 digits.
use mathlib.Core.Path.{◌≡◌, sym}
use Prim.Native.Nat.{ℕ, ◌≤◌}
use borrow.Author.Rules.{rules}
use native.Mathlib.Omega.{arith}
use lib.ListN.{length}
use lib.Seq.{length-take-le}
use Rattle.design.specs.declared.Design.{Design}
use Rattle.design.specs.Legal.{Legal}
use Rattle.design.proofs.LegalLaws.{limits}
use Rattle.encoding.specs.DesignBytes.{design_bytes}
use Rattle.encoding.proofs.DesignBack.{design-length}
use Rattle.smallest_design.proofs.put_design.Goals as goal

-- so many bytes without the sum
few : (d : Design) (count : ℕ) → Legal d → count ≡ length (design_bytes d) → count ≤ 15
few d count legal is = omega (arith, is, design-length d legal, (limits d legal).m-high)

pub put_line-requires : goal.put_line-requires
put_line-requires g c =
    let n = few _ _ c.args.legal.legal c.design_frame-frame.ensures.count_value in
    record { short = omega (arith, n); long = omega (arith, n) }

pub slice_bounds-line-end : goal.slice_bounds-line-end
slice_bounds-line-end g c =
    let full : length c.put_line.new.line ≡ 33 = search rules in
    omega (arith, full, few _ _ c.args.legal.legal c.design_frame-frame.ensures.count_value)

pub slice_bounds-text-end : goal.slice_bounds-text-end
slice_bounds-text-end g c =
    let full : length c.put_line.new.line ≡ 33 = search rules in
    sym (length-take-le _ _ (omega (arith, full, few _ _ c.args.legal.legal c.design_frame-frame.ensures.count_value)))
