-- `frames::frame_design` meets its contract: each field is read at its byte, and the pairs are those of `frame_pair`.
use mathlib.Core.Path.{◌≡◌, refl, ◌∙◌}
use mathlib.Core.List.{List, [], ◌∷◌}
use native.Mathlib.Omega.{arith}
use lib.ListN.{length, get_or}
use borrow.Author.Rules.{rules}
use Rattle.std.proofs.Common.{tests}
use Rattle.design.specs.declared.Pair.{Pair}
use Rattle.design.specs.Cut.{no_pair}
use Rattle.frames.specs.DesignFrame.{frame_pair, frame_design}
use Rattle.frames.proofs.frame_design.Goals as goal

-- A list of four is what its elements are.
four : (ps : List Pair) (a b c d : Pair) → length ps ≡ 4 → get_or ps 0 no_pair ≡ a → get_or ps 1 no_pair ≡ b → get_or ps 2 no_pair ≡ c
    → get_or ps 3 no_pair ≡ d → ps ≡ a ∷ b ∷ c ∷ d ∷ []
four (p ∷ q ∷ r ∷ s ∷ []) a b c d long ea eb ec ed = rw (← ea, ← eb, ← ec, ← ed) refl
four [] a b c d long ea eb ec ed = absurd (omega arith)
four (p ∷ []) a b c d long ea eb ec ed = absurd (omega arith)
four (p ∷ q ∷ []) a b c d long ea eb ec ed = absurd (omega arith)
four (p ∷ q ∷ r ∷ []) a b c d long ea eb ec ed = absurd (omega arith)
four (p ∷ q ∷ r ∷ s ∷ t ∷ more) a b c d long ea eb ec ed = absurd (omega arith)

pub returns : goal.returns
unfolding frame_design
returns c =
    let each = c.from_fn.ensures.items.each in
    let bytes = c.args.frame.now.bytes in
    let e0 : each.1 ≡ frame_pair bytes 0 = search (rules, tests, each.3) in
    let next = each.4 in
    let e1 : next.1 ≡ frame_pair bytes 1 = search (rules, tests, each.3, next.3) in
    let third = next.4 in
    let e2 : third.1 ≡ frame_pair bytes 2 = search (rules, tests, each.3, next.3, third.3) in
    let last = third.4 in
    let e3 : last.1 ≡ frame_pair bytes 3 = search (rules, tests, each.3, next.3, third.3, last.3) in
    rw (four _ _ _ _ _ c.from_fn.ensures.items.long (each.2.1 no_pair ∙ e0) (next.2.1 no_pair ∙ e1) (third.2.1 no_pair ∙ e2) (last.2.1 no_pair ∙ e3))
    refl
