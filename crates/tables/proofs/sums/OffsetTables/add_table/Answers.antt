-- `tables::sums::OffsetTables::add_table` meets its contract: the lookup leads to the offset that x reads, whose sum with the others is still small.
use mathlib.Core.Path.{◌≡◌}
use mathlib.Core.List.{List}
use Prim.Native.Nat.{ℕ, ◌≤◌, ◌<◌}
use native.Mathlib.Nat.{lt_of_lt_of_le}
use lib.ListN.{length, get_or}
use lib.IntN.{ℤ, pos}
use Rattle.design.specs.declared.Design.{Design}
use Rattle.design.specs.Stored.{offset_from, offset_total}
use Rattle.design.specs.Legal.{Legal}
use Rattle.design.proofs.LegalLaws.{limits}
use Rattle.tables.specs.declared.lookups.Lookup.{Lookup}
use Rattle.tables.specs.Inputs.{SameInterval}
use Rattle.tables.specs.Lookup.{lookup_of, place_at}
use Rattle.tables.specs.Sum.{offset_for}
use Rattle.tables.proofs.LookupLaws.{lookup-asks, place_is, place-lt}
use Rattle.tables.proofs.sums.OffsetTables.add_table.Goals as goal

-- A table that is read: where its lookup leads
module _ {d : Design} (offsets : List ℤ) {near x i : ℕ} (usable : Legal d × (offset_total d ≤ length offsets)) (more : i < d.m)
    {lookup : Lookup} (e : lookup ≡ lookup_of d i) (words : SameInterval d near x) {place : ℕ} (at : place ≡ place_at lookup near x) where
  inside : place < length offsets
  inside = rw (at, e) (lt_of_lt_of_le (place-lt d (limits d usable.0) i near x more words) usable.1)

  read : get_or offsets place (pos 0) ≡ offset_for d offsets x i
  unfolding offset_for offset_from
  read = rw (at, e, place_is d (limits d usable.0) i near x more words)

pub place_of-requires : goal.place_of-requires
place_of-requires c =
    let p = c.requires in let p = lookup-asks _ (limits _ c.args.self.legal) _ _ _ p.i_lt_m.0 p.lookup_value.1 _ p.lookup_value.0 in record { small = p.0; near_lt_word_bound = p.1 }

pub add_offset-requires : goal.add_offset-requires
add_offset-requires c =
    let s = c.before in
    let p = s.requires in
    (inside s.args.self.offsets.now (s.args.self.legal, s.args.self.offsets_long) p.i_lt_m.0 p.lookup_value.0 p.lookup_value.1 c.place_of.ensures, p.i_lt_m.1)

pub returns : goal.returns
returns c =
    let s = c.before.before in
    let p = s.requires in
    rw (← read s.args.self.offsets.now (s.args.self.legal, s.args.self.offsets_long) p.i_lt_m.0 p.lookup_value.0 p.lookup_value.1 c.place_of.ensures)
    c.add_offset.ensures
