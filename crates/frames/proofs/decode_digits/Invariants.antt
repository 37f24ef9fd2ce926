-- `frames::decode_digits` meets its contract: the loop keeps `BytesRead`, and each way out cites a law that refuses or accepts the digits.
use Rattle.std.proofs.Common.{◌≡◌, ◌/◌, length}
use Rattle.frames.proofs.Decoding.{BytesRead}
use Rattle.frames.proofs.decode_digits.Given as goal

abbrev pub invariant-loop-i : goal.invariant-loop-i
invariant-loop-i l =
    record {
      two : l.i-iterator.iter.size ≡ 2;
      so_far : BytesRead l.digits l.i-iterator.iter.rest.now l.frame.bytes l.sum l.i-iterator.count;
      count : l.frame.count ≡ length l.digits / 2;
    }
