-- `tables::sums::OffsetTables::run_of` meets its contract: its words are as many as table 0's lookup has, and what they share is found from the first.
use mathlib.Core.Path.{◌≡◌, refl, ap, ◌∙◌}
use Prim.Native.Nat.{◌*◌, ◌%◌, ◌^◌, ◌<◌}
use native.Mathlib.Omega.{arith}
use lib.IntN.{pos}
use mir.Syntax.{w64}
use mir.Val.{to_z}
use mir.ValLaws.{to_z_pos}
use Rattle.values.specs.declared.TableUnits.{TableUnits}
use Rattle.design.specs.declared.Design.{Design}
use Rattle.design.specs.Cut.{b_of}
use Rattle.design.proofs.LegalLaws.{Limits, limits}
use Rattle.tables.specs.declared.lookups.Lookup.{Lookup}
use Rattle.tables.specs.Lookup.{lookup_of}
use Rattle.tables.proofs.LookupLaws.{looked, lookup-small, shl_one}
use Rattle.tables.proofs.sums.OffsetTables.run_of.Goals as goal
use Rattle.tables.proofs.sums.OffsetTables.run_of.Goals.{Start}

-- How many words there are, by the lookup of table 0
module _ (d : Design) (l : Limits d) (first : Lookup) (first-is : first ≡ lookup_of d 0) where
  b-small : first.b < 32
  b-small = (lookup-small d l 0 first first-is (omega arith)).b-small

  size-found : 1 * 2 ^ first.b % 2 ^ 32 ≡ 2 ^ b_of d 0
  unfolding lookup_of
  size-found = shl_one first.b b-small ∙ rw first-is refl

-- the entry is the same number in 64 bits
held : (c : Start) → to_z w64 c.args.entry ≡ pos c.args.entry
held c = to_z_pos w64 c.args.entry (omega arith)

pub overflow_shl-result : goal.overflow_shl-result
overflow_shl-result c = let t = c.args.self in b-small _ (limits _ t.legal) _ (looked t.lookups_value).first-is

pub returns : goal.returns
returns c =
    let s = c.before in
    let t = s.args.self in
    let p = s.requires in (
      refl,
      refl,
      record {
        interval = p.0;
        starts = p.1;
        size_is = size-found _ (limits _ t.legal) _ (looked t.lookups_value).first-is;
        above-is = rw (held c.before) at (ap (λ (u : TableUnits). u.0) c.add_above.ensures.0);
        above-small = c.add_above.ensures.1;
      },
    )
