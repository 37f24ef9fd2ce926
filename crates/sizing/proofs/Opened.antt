-- To unfold `sizing-opened` is to unfold every definition of this crate, of entries, of designs and of values.
use Rattle.general.specs.Below.{every_below, first_from}
use Rattle.entries.proofs.Opened.{entries-opened}
use Rattle.sizing.specs.Width.{holds, holds_all, offset_bits}
use Rattle.sizing.specs.Size.{initial_size, table_size, size, size_verdict, size_answer, size_told}
use Rattle.sizing.specs.Widest.{widest_offset, bits_for}

unfoldable pub sizing-opened : Unit {0}
unfolding
    entries-opened every_below first_from holds holds_all offset_bits initial_size table_size size size_verdict size_answer size_told widest_offset bits_for
sizing-opened = tt
