-- `record_writing::put_record` meets its contract: the line is put behind the colon.
use Prim.Native.Nat.{◌+◌, ◌≤◌}
use native.Mathlib.Omega.{arith}
use lib.ListN.{length}
use Rattle.encoding.specs.Encode.{line_of}
use Rattle.encoding.proofs.LineBack.{line-length}
use Rattle.record_writing.proofs.ColonLaws.{behind-length, colon-put}
use Rattle.record_writing.proofs.put_record.Goals as goal

pub put_bytes-requires : goal.put_bytes-requires
put_bytes-requires c =
    record { short = c.requires.bytes_len_bound; long = omega (arith, behind-length c.args.«record».now (omega (arith, c.requires.bytes_in_bounds)), c.requires.bytes_in_bounds) }

pub returns : goal.returns
returns c =
    let room : (1 + length (line_of c.args.bytes.now) ≤ length c.args.«record».now) =
    omega (arith, line-length c.args.bytes.now, c.requires.bytes_in_bounds) in
    colon-put _ _ _ (room) c.put_bytes.ensures
