-- `lines::head_of` meets its contract: each frame begins with the byte of its kind, and each call puts a number behind what it has.
use Rattle.encoding.proofs.NumberBytes.{has_more}
use Rattle.lines.specs.Lines.{frame_head}
use Rattle.lines.proofs.head_of.Goals as goal

pub returns-in-Design : goal.returns-in-Design
unfolding frame_head
returns-in-Design c = rw c.in-Design.is (record { result_value = c.design_frame.ensures.result_value; count_value = c.design_frame.ensures.count_value })

pub returns-in-Initial : goal.returns-in-Initial
unfolding frame_head
returns-in-Initial c =
    let p = has_more _ _ _ _ _ (c.of_kind.ensures.result_value, c.of_kind.ensures.count_value) (c.with.ensures.result_value, c.with.ensures.count_value) in
    rw c.in-Initial.is (record { result_value = p.0; count_value = p.1 })

pub returns-in-Offset : goal.returns-in-Offset
unfolding frame_head
returns-in-Offset c =
    let p = has_more _ _ _ _ _ (has_more _ _ _ _ _ (c.of_kind-in-Offset.ensures.result_value, c.of_kind-in-Offset.ensures.count_value) (c.with-in-Offset.ensures.result_value, c.with-in-Offset.ensures.count_value)) (c.with-in-Offset-2.ensures.result_value, c.with-in-Offset-2.ensures.count_value) in
    rw c.in-Offset.is (record { result_value = p.0; count_value = p.1 })

pub returns-in-End : goal.returns-in-End
unfolding frame_head
returns-in-End c =
    let p = has_more _ _ _ _ _ (c.of_kind-in-End.ensures.result_value, c.of_kind-in-End.ensures.count_value) (c.with-in-End.ensures.result_value, c.with-in-End.ensures.count_value) in
    rw c.in-End.is (record { result_value = p.0; count_value = p.1 })
