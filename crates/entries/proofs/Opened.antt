-- To unfold `entries-opened` is to unfold every definition of this crate, of designs and of values.
use Rattle.design.proofs.Opened.{design-opened}
use Rattle.entries.specs.Entries.{
  value_at,
  end_values,
  initial_at,
  hi_at,
  lo_at,
  odd_number,
  magnitude,
  same_sign,
  signed,
  offset_of,
  offset_at,
}
use Rattle.entries.specs.Signs.{side_of, sign_of, entry_by, by_arithmetic, magnitude_at, sign_at}
use Rattle.entries.specs.Meaning.{signed_product, StandsFor}

unfoldable pub entries-opened : Unit {0}
unfolding
    design-opened value_at end_values initial_at hi_at lo_at odd_number magnitude same_sign signed offset_of offset_at side_of sign_of entry_by
    by_arithmetic magnitude_at sign_at signed_product StandsFor
entries-opened = tt
