-- `tables::sums::OffsetTables::word_of` meets its contract: a sum in range is small.
use Rattle.tables.specs.Sum.{word_of}
use Rattle.tables.proofs.SumLaws.{small-in-range}
use Rattle.tables.proofs.sums.OffsetTables.word_of.Goals as goal

pub divided-requires : goal.divided-requires
divided-requires c = small-in-range _ c.args.self.legal _ c.requires

pub returns : goal.returns
unfolding word_of
returns c = c.divided.ensures
