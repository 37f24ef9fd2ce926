-- Lines that the writer gives: each is one of the set's, and none is too long.
use Rattle.std.specs.Prelude.{Ok}
use mathlib.Core.Path.{◌≡◌}
use mathlib.Core.List.{List}
use Prim.Native.Nat.{ℕ, ◌≤◌, ◌<◌}
use native.Mathlib.Omega.{arith}
use lib.ListN.{length}
use lib.IntN.{ℤ}
use Rattle.design.specs.declared.Design.{Design}
use Rattle.design.specs.Legal.{Legal}
use Rattle.frames.specs.Line.{longest_line}
use Rattle.encoding.proofs.LineBack.{line-length}
use Rattle.lines.specs.Slots.{line_count, slot_of}
use Rattle.lines.specs.Lines.{frame_of, line_at}
use Rattle.lines.proofs.FrameLaws.{frame-short, frame-length}
use Rattle.writing.specs.Write.{write_verdict}
use Rattle.writing.proofs.WriteLaws.{given}

pub line-short : (d : Design) (initial : List ℕ) (offsets : List ℤ) (n : ℕ) → Legal d → length (line_at d initial offsets n) ≤ longest_line
unfolding line_at
line-short d initial offsets n legal =
    let slot = slot_of d n in
    omega (arith, line-length (frame_of d slot initial offsets), frame-length d slot initial offsets, frame-short d legal slot)

module _ (d : Design) (initial : List ℕ) (offsets : List ℤ) (n room : ℕ) (passed : write_verdict d initial offsets n room ≡ Ok tt) where
  pub given-within : n < line_count d
  given-within = (given d initial offsets n room passed).within

  pub given-short : length (line_at d initial offsets n) ≤ longest_line
  given-short = line-short d initial offsets n (given d initial offsets n room passed).usable.legal
