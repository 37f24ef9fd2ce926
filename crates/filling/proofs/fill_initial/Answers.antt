-- `filling::fill_initial` meets its contract: after n turns the first n initial entries are written over the table from its start.
use mathlib.Core.Path.{◌≡◌, refl, sym, ◌∙◌}
use mathlib.Core.List.{List, ◌++◌}
use Prim.Native.Nat.{ℕ, ◌^◌, ◌≤◌}
use native.Mathlib.Omega.{arith}
use lib.ListN.{length, length-set, take, drop}
use lib.Seq.{length-take-le}
use Rattle.general.specs.Lists.{over}
use Rattle.general.proofs.WritingLaws.{run_none, run-one}
use Rattle.design.specs.declared.Design.{Design}
use Rattle.design.specs.Stored.{initial_count}
use Rattle.design.proofs.LegalLaws.{limits}
use Rattle.filling.specs.Fill.{initial_entries}
use Rattle.filling.proofs.PartLaws.{over-whole, front-over}
use Rattle.filling.proofs.EntryLaws.{initial-length}
use Rattle.filling.proofs.fill_initial.Invariants.{Inv}
use Rattle.filling.proofs.fill_initial.Goals as goal

-- The part of the table that is written, and what is left behind it
module _ (d : Design) (initial : List ℕ) {n : ℕ} (count : n ≡ 2 ^ d.alpha) (room : initial_count d ≤ length initial) where
  fits : n ≤ length initial
  unfolding initial_count
  fits = omega (arith, count, room)

  as_many : length (take n initial) ≡ initial_count d
  unfolding initial_count
  as_many = length-take-le n initial fits ∙ count

  written : {part : List ℕ} {word : ℕ} → Inv d (take n initial) part word → word ≡ length (take n initial)
      → part ++ drop n initial ≡ over initial 0 (initial_entries d)
  unfolding initial_entries
  written {part} inv all =
      let long : length (initial_entries d) ≡ n = initial-length d ∙ sym as_many ∙ length-take-le n initial fits in
      let whole : over (take n initial) 0 (initial_entries d) ≡ initial_entries d =
      over-whole (take n initial) (initial_entries d) (as_many ∙ sym (initial-length d)) in
      let part-is : part ≡ initial_entries d = inv.so_far ∙ rw (all, as_many) whole in
      rw part-is (front-over initial (initial_entries d) n long)

pub returns : goal.returns
returns c = written _ _ c.pow2-words.ensures c.requires c.loop-word.invariant (omega arith)

pub row_of-row-requires : goal.row_of-row-requires
row_of-row-requires c = (limits _ c.args.legal.legal).widths.kind-known

pub pow2-words-requires : goal.pow2-words-requires
pow2-words-requires c = omega (arith, limits _ c.args.legal.legal)

pub slice_bounds-entry-items-end : goal.slice_bounds-entry-items-end
slice_bounds-entry-items-end c = omega (arith, fits _ _ c.pow2-words.ensures c.requires)

pub slice_bounds-entry-items-end-2 : goal.slice_bounds-entry-items-end-2
slice_bounds-entry-items-end-2 c = sym (length-take-le _ c.args.initial.now (fits _ _ c.pow2-words.ensures c.requires))

pub loop-word-init : goal.loop-word-init
loop-word-init c = record { so_far = run_none _ _ 0; kept = refl }

pub initial_at-requires : goal.initial_at-requires
initial_at-requires c =
    (c.row_of-row.ensures, rw (as_many _ _ c.pow2-words.ensures c.requires) at c.loop-word-test.true)

pub loop-word-preserved : goal.loop-word-preserved
loop-word-preserved c =
    let inv = c.loop-word.invariant in
    record {
      so_far = run-one _ _ 0 _ _ _ inv.so_far (omega arith) c.initial_at.ensures c.loop-word-test.true;
      kept = simp length-set inv.kept;
    }
