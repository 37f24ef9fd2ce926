-- `filling::fill_offsets` meets its contract: the loop keeps `Tables`, the first n tables written, and where the next one begins.
use mathlib.Core.Path.{◌≡◌, ap}
use mathlib.Core.List.{List}
use Prim.Native.Nat.{ℕ, ◌+◌, ◌≤◌, ◌<◌}
use native.Mathlib.Omega.{arith}
use lib.IntN.{ℤ}
use lib.ListN.{length}
use Rattle.design.specs.declared.Design.{Design}
use Rattle.design.specs.declared.Pair.{Pair}
use Rattle.design.specs.Stored.{offset_count, offset_total}
use Rattle.design.proofs.LegalLaws.{limits, bits-end}
use Rattle.filling.specs.Fill.{offset_entries}
use Rattle.filling.proofs.TableLaws.{Tables, tables_start, tables-next, table-room}
use Rattle.filling.proofs.fill_offsets.Goals as goal

-- This turn's table lies within the offsets.
inside : {d : Design} {before table : List ℤ} {at p n count : ℕ} → Tables d before table at p n → offset_total d ≤ length before → n < d.m
    → count ≡ offset_count d n → at + count ≤ length before
inside {d} tables long n-lt count-is = omega (arith, table-room d _ n-lt, tables.place)

pub loop-i-init : goal.loop-i-init
loop-i-init c = tables_start _ _

pub overflow_add-end : goal.overflow_add-end
overflow_add-end c =
    omega (arith, inside c.loop-i.invariant c.requires c.loop-i-test.true c.offset_count.ensures, c.well_formed)

pub offset_bounds-offsets-at : goal.offset_bounds-offsets-at
offset_bounds-offsets-at c =
    omega (arith, inside c.loop-i.invariant c.requires c.loop-i-test.true c.offset_count.ensures, c.well_formed)

pub slice_bounds-fill_table-end : goal.slice_bounds-fill_table-end
slice_bounds-fill_table-end c = omega (arith, inside c.loop-i.invariant c.requires c.loop-i-test.true c.offset_count.ensures)

pub pair-p-requires : goal.pair-p-requires
pair-p-requires c = c.loop-i-test.true

pub overflow_add-p : goal.overflow_add-p
overflow_add-p c =
    let l = limits _ c.args.legal.legal in
    rw c.pair-p.ensures (omega (arith, c.loop-i.invariant.bits, bits-end _ l _ c.loop-i-test.true, l.widths.room.w-small))

pub loop-i-preserved : goal.loop-i-preserved
loop-i-preserved c =
    let b-is = ap (λ (pair : Pair). pair.b) c.pair-p.ensures in
    let count-is = c.offset_count.ensures in
    tables-next _ c.requires c.loop-i.invariant c.loop-i-test.true b-is (ap (λ (count : ℕ). c.loop-i.at + count) count-is)
    (omega (arith, count-is)) c.fill_table.ensures

pub returns : goal.returns
unfolding offset_entries
returns c =
    let end : c.loop-i.i ≡ c.args.legal.design.m = omega arith in
    rw end at c.loop-i.invariant.so_far
