-- `record_writing::put_entry` meets its contract: the bytes of the number, but for the highest, are copied over.
use mathlib.Core.Path.{◌≡◌, ap, ◌∙◌}
use Prim.Native.Nat.{◌+◌, ◌-◌, ◌/◌}
use native.Mathlib.Omega.{arith}
use Rattle.general.specs.Lists.{over}
use Rattle.encoding.specs.Bytes.{big_endian}
use Rattle.record_writing.proofs.WindowLaws.{put-over}
use Rattle.record_writing.proofs.put_entry.Goals as goal

pub returns : goal.returns
unfolding big_endian
returns c =
    let a = c.args in
    put-over a.window.now a.at (a.at + 3 - a.at) c.copy_from_slice.new.self
    (rw (c.copy_from_slice.ensures.after, c.to_be_bytes.ensures) (omega arith))
    ∙ ap (over a.window.now a.at)
    (c.copy_from_slice.ensures.after ∙ rw c.to_be_bytes.ensures (let last : a.number / 1 ≡ a.number = omega arith in rw last))
