-- `tables::lookups::lookups_of` meets its contract: nothing lies before the first table, and each other follows from the one before.
use mathlib.Core.Path.{refl}
use Rattle.general.specs.Below.{sum_below}
use Rattle.design.specs.Cut.{position}
use Rattle.design.specs.Stored.{table_start}
use Rattle.tables.specs.Lookup.{lookups_of}
use Rattle.tables.proofs.lookups.lookups_of.Goals as goal

pub lookup_of-first-requires : goal.lookup_of-first-requires
unfolding position table_start sum_below
lookup_of-first-requires c = (refl, refl)

pub returns : goal.returns
unfolding lookups_of
returns c = cc
