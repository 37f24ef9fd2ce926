-- The best of a list: of two lists one after another, and where nothing in a list is better.
use Rattle.std.specs.Prelude.{Option, None, Some}
use mathlib.Core.Path.{◌≡◌, refl, ◌∙◌}
use mathlib.Core.Bool.{Bool, true, false, true≢false, cond, ◌&&◌}
use mathlib.Core.List.{List, [], ◌∷◌, ◌++◌}
use Prim.Native.Nat.{ℕ, zero, suc, ◌+◌, ◌-◌, ◌≤◌, ◌<◌}
use native.Mathlib.Nat.{add-zero, le_trans}
use native.Mathlib.Omega.{arith}
use borrow.Author.Tests.{le-ltb, ltb-false}
use Rattle.general.specs.Below.{joined}
use Rattle.general.specs.Lists.{All}
use Rattle.general.proofs.JoinedLaws.{joined-next}
use Rattle.design.specs.declared.Design.{Design}
use Rattle.sizing.specs.Size.{size}
use Rattle.searching.specs.declared.SizedDesign.{SizedDesign}
use Rattle.searching.specs.Best.{is_admitted, fewer, better, best_of}

-- A design of at most so many bits is found.
abbrev pub Reached : Option SizedDesign → ℕ → Type 0
Reached None n = ⊥
Reached (Some best) n = best.bits ≤ n

pub reached-more : (best : Option SizedDesign) (n k : ℕ) → Reached best n → n ≤ k → Reached best k
reached-more None n k reached more = absurd reached
reached-more (Some best) n k reached more = le_trans reached more

-- as the test has it
pub not-fewer : (best : Option SizedDesign) (n : ℕ) → Reached best n → fewer n best ≡ false
unfolding fewer
not-fewer None n reached = absurd reached
not-fewer (Some best) n reached = le-ltb n best.bits reached

pub is-reached : (best : Option SizedDesign) (n : ℕ) → fewer n best ≡ false → Reached best n
unfolding fewer
is-reached None n e = absurd (true≢false e)
is-reached (Some best) n e = ltb-false n best.bits e

-- A design that does not take the place of the best
abbrev pub NotBetter : Option SizedDesign → Design → Type 0
NotBetter best d = is_admitted d ≡ true → Reached best (size d)

pub better-not : (best : Option SizedDesign) (d : Design) → NotBetter best d → better best d ≡ best
unfolding better
better-not best d not = by (is_admitted d) refl where
  by : (admitted : Bool) → is_admitted d ≡ admitted
      → cond (admitted && fewer (size d) best) (Some (record { design = d; bits = size d })) best ≡ best
  by true e = rw (not-fewer best (size d) (not e))
  by false e = refl

-- and one that does
pub better-so : (best : Option SizedDesign) (d : Design) → is_admitted d ≡ true → fewer (size d) best ≡ true
    → better best d ≡ Some (record { design = d; bits = size d })
unfolding better
better-so best d admitted fewer = rw (admitted, fewer)

pub best_none : (best : Option SizedDesign) (ds : List Design) → All (NotBetter best) ds → best_of best ds ≡ best
unfolding best_of
best_none best [] none = refl
best_none best (d ∷ ds) none = rw (better-not best d none.0) (best_none best ds none.1)

pub best-append : (best : Option SizedDesign) (ds es : List Design) → best_of best (ds ++ es) ≡ best_of (best_of best ds) es
unfolding best_of
best-append best [] es = refl
best-append best (d ∷ ds) es = best-append (better best d) ds es

-- Over the lists of the numbers from `low` on, below k: none yet, one more, and more that change nothing
module _ (low : ℕ) (f : ℕ → List Design) (best : Option SizedDesign) where
  pub best-first : best_of best (joined low (low - low) f) ≡ best
  unfolding joined best_of
  best-first = let none : low - low ≡ 0 = omega arith in rw none

  pub best-one : (now : Option SizedDesign) (k : ℕ) → low ≤ k → best_of best (joined low (k - low) f) ≡ now
      → best_of best (joined low (k + 1 - low) f) ≡ best_of now (f k)
  best-one now k h e =
      let count : k + 1 - low ≡ k - low + 1 = omega arith in
      let place : low + (k - low) ≡ k = omega arith in
      rw (count, joined-next low (k - low) f) (best-append best (joined low (k - low) f) (f (low + (k - low))) ∙ rw (e, place))

  more : (now : Option SizedDesign) (k n : ℕ) → low ≤ k → best_of best (joined low (k - low) f) ≡ now
      → ((j : ℕ) → k ≤ j → j < k + n → All (NotBetter now) (f j)) → best_of best (joined low (k + n - low) f) ≡ now
  more now k zero h e none = rw (add-zero k) e
  more now k (suc n) h e none =
      let all : k + suc n ≡ k + n + 1 = omega arith in
      let before = more now k n h e (λ j from to. none j from (omega arith)) in
      rw all (best-one now (k + n) (omega arith) before ∙ best_none now (f (k + n)) (none (k + n) (omega arith) (omega arith)))

  pub best-rest : (now : Option SizedDesign) (k end : ℕ) → low ≤ k → k ≤ end → best_of best (joined low (k - low) f) ≡ now
      → ((j : ℕ) → k ≤ j → j < end → All (NotBetter now) (f j)) → best_of best (joined low (end - low) f) ≡ now
  best-rest now k end h within e none =
      let all : k + (end - k) ≡ end = omega arith in
      rw all at (more now k (end - k) h e (λ j from to. none j from (omega arith)))
