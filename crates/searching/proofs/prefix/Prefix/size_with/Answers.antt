-- `searching::prefix::Prefix::size_with` meets its contract: a table more has 2^(a+b) entries more, each of the bits of its widest offset.
use mathlib.Core.Path.{◌≡◌, sym, ap}
use mathlib.Core.List.{List}
use Prim.Native.Nat.{ℕ, ◌+◌, ◌*◌, ◌^◌, ◌≤◌, ◌<◌}
use native.Mathlib.Omega.{arith}
use lib.ListN.{get_or}
use Rattle.values.specs.declared.slopes.LargestSlopes.{LargestSlopes}
use Rattle.values.specs.Slopes.{largest_sum}
use Rattle.design.specs.declared.Design.{Design}
use Rattle.design.specs.Cut.{row, fraction_bits}
use Rattle.entries.specs.Inputs.{OffsetInput}
use Rattle.sizing.specs.Widest.{widest_offset, bits_for}
use Rattle.sizing.proofs.SizeLaws.{table_bound, size-by-small}
use Rattle.searching.specs.Designs.{with_pair}
use Rattle.searching.specs.Search.{no_slopes, size_before, Kept, Open, Fitting, SlopesFor}
use Rattle.searching.proofs.OpenLaws.{size-next}
use Rattle.searching.proofs.SmallLaws.{size_few, widest-asked}
use Rattle.searching.proofs.prefix.Prefix.size_with.Goals as goal
use Rattle.searching.proofs.prefix.Prefix.size_with.Goals.{Start}

-- what is looked up, and the size that the calls come to with it
module _ (d : Design) (i at so_far budget most a b : ℕ) (slopes : List LargestSlopes) (kept : Kept d i at so_far budget most) (o : Open d i)
    (known : SlopesFor d slopes) (more : i < d.m) (fit : Fitting d i a b)
  where
    abbrev sum : ℕ
    sum = (get_or slopes a no_slopes).sum

    sum_is : sum ≡ largest_sum (row d) d.w (fraction_bits d) a
    sum_is =
        ap (λ (largest : LargestSlopes). largest.sum)
        (known a fit.a-low (omega (arith, fit.b-low, fit.sum-high)) (omega (arith, fit.a-high, o.begun.started.alpha-below)))

    asked : OffsetInput sum b at
    asked = rw (sum_is, kept.position_is) (widest-asked d i o a b fit)

    module _ (entries bits : ℕ) (entries-are : entries ≡ 2 ^ (a + b)) (bits_are : bits ≡ bits_for (widest_offset sum b at)) where
      few : entries * bits ≤ table_bound
      few = rw (entries-are, bits_are) (size-by-small a b _ fit.sum-high)

      grown : so_far + entries * bits ≡ size_before (with_pair d i a b) (i + 1)
      grown =
          let begun = o.begun in
          rw (entries-are, bits_are, sum_is, kept.bits_are, kept.position_is) (sym (size-next d i a b more begun.places begun.m-high))

pub returns : goal.returns
returns c =
    let s = c.args.self.now in
    grown _ _ _ _ _ _ _ _ _ s.kept s.so_far s.known c.requires.0 c.requires.1 _ _ c.pow2.ensures c.bits_of.ensures

pub bits_of-requires : goal.bits_of-requires
bits_of-requires c =
    let s = c.args.self.now in
    asked _ _ _ _ _ _ _ _ _ s.kept s.so_far s.known c.requires.0 c.requires.1

pub overflow_add-result : goal.overflow_add-result
overflow_add-result c =
    let s = c.args.self.now in
    omega (
      arith,
      few _ _ _ _ _ _ _ _ _ s.kept s.so_far s.known c.requires.0 c.requires.1 _ _ c.pow2.ensures c.bits_of.ensures,
      s.kept.bits_are,
      size_few _ _ s.so_far,
    )
