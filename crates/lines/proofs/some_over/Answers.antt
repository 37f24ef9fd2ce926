-- `lines::some_over` meets its contract: some of the first initial entries is over.
use mathlib.Core.Path.{◌≡◌, refl, sym, ap, ◌∙◌}
use mathlib.Core.Bool.{Bool, ◌||◌}
use mathlib.Core.List.{List}
use Prim.Native.Nat.{ℕ, zero, suc, ◌≤◌}
use native.Mathlib.Numerals.{add-one}
use native.Mathlib.Omega.{arith}
use borrow.Author.Rules.{rules}
use lib.ListN.{length, take, get_or}
use lib.Seq.{length-take-le}
use Rattle.std.proofs.Common.{tests}
use Rattle.std.specs.List.{list_any}
use Rattle.std.proofs.lemmas.List.Folds.{list_any_more}
use Rattle.std.proofs.lemmas.Iterator.{YieldsList-from_slice}
use Rattle.std.proofs.lemmas.Iterator.Search.{any_from_yields_List}
use Rattle.general.specs.Below.{some_below}
use Rattle.design.specs.Stored.{initial_count}
use Rattle.design.proofs.LegalLaws.{limits}
use Rattle.lines.specs.Lines.{initial_over, some_over}
use Rattle.lines.proofs.some_over.Goals as goal

-- Some of the first n elements passes a test.
any-below : (n : ℕ) (test : ℕ → Bool) (xs : List ℕ) → n ≤ length xs → list_any test (take n xs) ≡ some_below n (λ i. test (get_or xs i 0))
unfolding some_below
any-below zero test xs h = refl
any-below (suc n) test xs h =
    rw add-one at (list_any_more test xs n 0 (omega arith)) ∙ ap (λ (b : Bool). b || test (get_or xs n 0)) (any-below n test xs (omega arith))

pub pow2-requires : goal.pow2-requires
pow2-requires c = omega (arith, (limits _ c.args.legal.legal).alpha-high)

pub slice_bounds-iter-end : goal.slice_bounds-iter-end
unfolding initial_count
slice_bounds-iter-end c = sym (length-take-le _ _ (rw c.pow2.ensures c.requires))

pub returns : goal.returns
unfolding some_over initial_count
returns c =
    let entries = take c.pow2.result c.args.initial.now in
    let some : c.any.result ≡ list_any (initial_over c.args.legal.design) entries =
    any_from_yields_List (initial_over c.args.legal.design) _ _ _ c.any.ensures.ran (YieldsList-from_slice entries cc) (λ x b q k. search (rules, tests)) in
    some ∙ rw c.pow2.ensures (any-below _ (initial_over c.args.legal.design) c.args.initial.now c.requires)
