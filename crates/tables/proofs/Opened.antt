-- To unfold `tables-opened` is to unfold every definition of this crate, of designs and of values.
use Rattle.general.specs.Below.{signed_sum}
use Rattle.design.proofs.Opened.{design-opened}
use Rattle.tables.specs.Set.{tables_check, set_checks}
use Rattle.tables.specs.Lookup.{lookup_of, lookups_of, place_at}
use Rattle.tables.specs.Sum.{offset_for, sum_at, sum_outside, word_of, word_at}

unfoldable pub tables-opened : Unit {0}
unfolding design-opened tables_check set_checks lookup_of lookups_of place_at signed_sum offset_for sum_at sum_outside word_of word_at
tables-opened = tt
