-- `encoding::design_head` meets its contract: each number of a legal design is below 256, and each call puts one behind what there is.
use native.Mathlib.Omega.{arith}
use Rattle.design.proofs.LegalLaws.{limits}
use Rattle.encoding.proofs.NumberBytes.{has-byte}
use Rattle.encoding.proofs.design_head.Goals as goal

pub returns : goal.returns
returns c =
    let d = c.args.legal.design in
    let l = limits d c.args.legal.legal in
    let widths = l.widths in
    let has-kind = has-byte c.of_kind.result c.with.result d.kind (omega (arith, widths))
    (c.of_kind.ensures.result_value, c.of_kind.ensures.count_value)
    (c.with.ensures.result_value, c.with.ensures.count_value) in
    let has-w = has-byte c.with.result c.with-2.result d.w (omega (arith, widths)) has-kind
    (c.with-2.ensures.result_value, c.with-2.ensures.count_value) in
    let has-q = has-byte c.with-2.result c.with-3.result d.q (omega (arith, widths)) has-w
    (c.with-3.ensures.result_value, c.with-3.ensures.count_value) in
    let has-g = has-byte c.with-3.result c.with-4.result d.g (omega (arith, widths)) has-q
    (c.with-4.ensures.result_value, c.with-4.ensures.count_value) in
    let has-alpha = has-byte c.with-4.result c.with-5.result d.alpha (omega (arith, l.alpha-high)) has-g
    (c.with-5.ensures.result_value, c.with-5.ensures.count_value) in
    let p = has-byte c.with-5.result c.with-6.result d.m (omega (arith, l.m-high)) has-alpha
    (c.with-6.ensures.result_value, c.with-6.ensures.count_value) in
    record { result_value = p.0; count_value = p.1 }
