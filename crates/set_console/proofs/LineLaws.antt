-- Lines that the writer gives, and tables that hold every set.
use Rattle.std.specs.Prelude.{Ok}
use mathlib.Core.Path.{◌≡◌}
use Prim.Native.Nat.{ℕ, ◌+◌, ◌<◌}
use native.Mathlib.Omega.{arith}
use Rattle.design.specs.Limits.{most_initial, most_offsets}
use Rattle.design.proofs.StoredLaws.{initial-count-small, offset-total-small}
use Rattle.design.proofs.LegalLaws.{limits}
use Rattle.frames.specs.Line.{longest_line}
use Rattle.lines.specs.Slots.{line_count}
use Rattle.writing.specs.Write.{write_verdict}
use Rattle.writing.proofs.WriteLaws.{line-passes}
use Rattle.writing.proofs.GivenLaws.{line-short}
use Rattle.storage.specs.Sets.{TableSet, Storable}
use Rattle.storage.proofs.Fitting.{storable-lines}
use Rattle.set_console.specs.Reading.{HoldsEverySet}

-- The writer gives each line of a set that can be stored.
pub each-given : (t : TableSet) → Storable t → (n : ℕ) → n < line_count t.design
    → write_verdict t.design t.initial t.offsets n (longest_line + 1) ≡ (Ok tt)
each-given t storable n h =
    line-passes t.design t.initial t.offsets n (longest_line + 1) storable.usable h (storable-lines t storable n h)
    (omega (arith, line-short t.design t.initial t.offsets n storable.usable.legal))

-- Tables that hold as many entries as a legal set may have
pub every_set : HoldsEverySet most_initial most_offsets
every_set d legal =
    record {
      legal = legal;
      initial-long = initial-count-small d (limits d legal);
      offsets-long = offset-total-small d (limits d legal);
    }
