-- `sizing::size_of` meets its contract: after n turns `bits` is the size of the initial table and the first n, and `position` is p_n.
use mathlib.Core.Path.{◌≡◌, refl, sym, ap, ap₂, ◌∙◌}
use Prim.Native.Nat.{ℕ, ◌+◌}
use native.Mathlib.Omega.{arith}
use Rattle.general.specs.Below.{sum_below}
use Rattle.general.proofs.Sums.{sum-next}
use Rattle.design.specs.declared.Pair.{Pair}
use Rattle.design.specs.declared.Design.{Design}
use Rattle.design.specs.Cut.{b_of}
use Rattle.design.specs.Cut as Cut
use Rattle.design.specs.Stored.{initial_count}
use Rattle.design.proofs.LegalLaws.{limits, bits-end}
use Rattle.sizing.specs.Size.{initial_size, table_size, size}
use Rattle.sizing.proofs.SizeLaws.{initial-by-small, table-size-small}
use Rattle.sizing.proofs.size_of.Goals as goal

pub overflow_add-d : goal.overflow_add-d
overflow_add-d c = omega (arith, (limits _ c.args.legal.legal).widths.room.s-small)

pub initial_size-bits-requires : goal.initial_size-bits-requires
initial_size-bits-requires c = let l = limits _ c.args.legal.legal in (l.alpha-high, l.widths.room.s-small)

pub loop-i-init : goal.loop-i-init
unfolding sum_below Cut.position initial_size initial_count
loop-i-init c =
    let l = limits _ c.args.legal.legal in
    record {
      bits_are = omega (arith, c.initial_size-bits.ensures);
      place = refl;
      within = omega arith;
      small = omega (arith, c.initial_size-bits.ensures, initial-by-small _ _ l.alpha-high l.widths.room.s-small);
    }

pub table_size-bits-requires : goal.table_size-bits-requires
table_size-bits-requires c = (c.loop-i-test.true, c.loop-i.invariant.place)

-- one table more
module _ (d : Design) (bits i size : ℕ) where
  grown : bits ≡ initial_size d + sum_below i (table_size d) → size ≡ table_size d i → bits + size ≡ initial_size d + sum_below (i + 1) (table_size d)
  grown are is = omega (arith, sum-next i (table_size d))

pub overflow_add-bits : goal.overflow_add-bits
overflow_add-bits c =
    let l = limits _ c.args.legal.legal in
    omega (
      arith,
      c.table_size-bits.ensures,
      table-size-small _ _ l c.loop-i-test.true,
      c.loop-i.invariant.small,
      l.m-high,
    )

pub pair-position-requires : goal.pair-position-requires
pair-position-requires c = c.loop-i-test.true

pub overflow_add-position : goal.overflow_add-position
overflow_add-position c =
    let l = limits _ c.args.legal.legal in
    rw (c.pair-position.ensures, c.loop-i.invariant.place)
    (omega (arith, bits-end _ l _ c.loop-i-test.true, l.table _ c.loop-i-test.true, l.alpha-high, l.widths.room.w-small))

pub loop-i-preserved : goal.loop-i-preserved
unfolding Cut.position
loop-i-preserved c =
    let inv = c.loop-i.invariant in
    record {
      bits_are = grown _ _ _ _ inv.bits_are c.table_size-bits.ensures;
      place = ap₂ ◌+◌ inv.place (ap (λ (p : Pair). p.b) c.pair-position.ensures) ∙ sym (sum-next _ (b_of _));
      within = omega arith;
      small = omega (
        arith,
        c.table_size-bits.ensures,
        table-size-small _ _ (limits _ c.args.legal.legal) c.loop-i-test.true,
        inv.small,
      );
    }

pub returns : goal.returns
unfolding size
returns c =
    let e : c.loop-i.i ≡ c.args.legal.design.m = omega arith in
    rw (rw e at c.loop-i.invariant.bits_are)
