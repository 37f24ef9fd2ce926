-- What the best of a list is: an element of it, of which none has fewer bits, and before those that have as many.
use Rattle.std.specs.Prelude.{Option, None, Some}
use mathlib.Core.Path.{◌≡◌, refl, sym, ap, ◌∙◌}
use mathlib.Core.Bool.{Bool, true, false, true≢false}
use mathlib.Core.Logic.{◌⊎◌, inl, inr, ⊎_elim}
use mathlib.Core.List.{List, [], ◌∷◌}
use Prim.Native.Nat.{ℕ, ◌≤◌, ◌<◌}
use native.Mathlib.Nat.{le_refl, le_trans, le_of_lt}
use native.Mathlib.Omega.{arith}
use borrow.Author.Tests.{ltb-true}
use Rattle.general.specs.Lists.{All}
use Rattle.general.proofs.JoinedLaws.{Some as SomeOf, Ordered}
use Rattle.design.specs.declared.Design.{Design}
use Rattle.sizing.specs.Size.{size}
use Rattle.searching.specs.declared.SizedDesign.{SizedDesign}
use Rattle.searching.specs.Best.{is_admitted, fewer, better, best_of}
use Rattle.searching.proofs.BestLaws.{Reached, is-reached, not-fewer, better-not, better-so}

-- What is found is one design.
same-found : {one other : SizedDesign} → ◌≡◌ {A = Option SizedDesign} (Some one) (Some other) → other ≡ one
same-found e = cc

-- Fewer bits than the best are fewer than any number that the best has at most.
below-best : (best : Option SizedDesign) (k n : ℕ) → fewer k best ≡ true → Reached best n → k < n
unfolding fewer
below-best None k n less reached = absurd reached
below-best (Some best) k n less reached = omega (arith, ltb-true k best.bits less, reached)

not-both : (best : Option SizedDesign) (n : ℕ) → fewer n best ≡ true → Reached best n → ⊥
not-both best n less reached = let z : ◌≡◌ {A = Bool} true false = sym less ∙ not-fewer best n reached in absurd (true≢false z)

-- One design more: the best stands, or the design takes its place.
data Turn (best : Option SizedDesign) (d : Design) : Type 0 where
  stands : better best d ≡ best → (is_admitted d ≡ true → Reached best (size d)) → Turn best d
  taken : better best d ≡ Some (record { design = d; bits = size d }) → is_admitted d ≡ true → fewer (size d) best ≡ true → Turn best d

turn : (best : Option SizedDesign) (d : Design) → Turn best d
turn best d = by (is_admitted d) refl (fewer (size d) best) refl where
  not-true : is_admitted d ≡ false → is_admitted d ≡ true → Reached best (size d)
  not-true e f = let z : ◌≡◌ {A = Bool} true false = sym f ∙ e in absurd (true≢false z)

  by : (admitted : Bool) → is_admitted d ≡ admitted → (less : Bool) → fewer (size d) best ≡ less → Turn best d
  by false e less h = stands (better-not best d (not-true e)) (not-true e)
  by true e true h = taken (better-so best d e h) e h
  by true e false h = let reached = is-reached best (size d) h in stands (better-not best d (λ f. reached)) (λ f. reached)

-- What a turn leaves
module _ (best : Option SizedDesign) (d : Design) where
  turn-reached : (n : ℕ) → Reached best n → Reached (better best d) n
  turn-reached n reached = elim (turn best d) [
    | stands is many ↦ rw is reached
    | taken is admitted less ↦ rw is (le_of_lt (below-best best (size d) n less reached))
  ]

  turn-least : is_admitted d ≡ true → Reached (better best d) (size d)
  turn-least admitted = elim (turn best d) [
    | stands is many ↦ rw is (many admitted)
    | taken is so less ↦ rw is (le_refl _)
  ]

-- So a list leaves the best, or finds one with fewer bits.
pub no_more : (best : Option SizedDesign) (ds : List Design) (n : ℕ) → Reached best n → Reached (best_of best ds) n
unfolding best_of
no_more best [] n reached = reached
no_more best (d ∷ ds) n reached = no_more (better best d) ds n (turn-reached best d n reached)

unchanged : (best : SizedDesign) (ds : List Design) (found : SizedDesign) → best_of (Some best) ds ≡ Some found → best.bits ≤ found.bits
    → found ≡ best
unfolding best_of
unchanged best [] found e many = same-found e
unchanged best (d ∷ ds) found e many = elim (turn (Some best) d) [
  | stands is none ↦ unchanged best ds found (rw is at e) many
  | taken is admitted less ↦ absurd (fallen is less)
] where
  fallen : better (Some best) d ≡ Some (record { design = d; bits = size d }) → fewer (size d) (Some best) ≡ true → ⊥
  fallen is less =
      let reached : Reached (Some found) (size d) = rw (rw is at e) at (no_more (Some (record { design = d; bits = size d })) ds (size d) (le_refl _)) in
      not-both (Some best) (size d) less (le_trans many reached)

-- What is found is an element that is admitted, with its size.
pub record Element (P : Design → Type 0) (found : SizedDesign) : Type 0 where
  pub has : P found.design
  pub admitted : is_admitted found.design ≡ true
  pub bits : found.bits ≡ size found.design

turn_in : (P : Design → Type 0) (best : Option SizedDesign) (d : Design) (found : SizedDesign) → P d → better best d ≡ Some found
    → (best ≡ Some found) ⊎ Element P found
turn_in P best d found p e = elim (turn best d) [
  | stands is many ↦ inl (sym is ∙ e)
  | taken is admitted less ↦ inr (rw (same-found (sym is ∙ e)) (record { has = p; admitted = admitted; bits = refl }))
]

pub found_in : (P : Design → Type 0) (best : Option SizedDesign) (ds : List Design) (found : SizedDesign) → All P ds
    → best_of best ds ≡ Some found → (best ≡ Some found) ⊎ Element P found
unfolding best_of
found_in P best [] found all e = inl e
found_in P best (d ∷ ds) found all e =
    ⊎_elim (λ same. turn_in P best d found all.0 same) (λ element. inr element) (found_in P (better best d) ds found all.1 e)

-- An admitted element has no fewer bits.
pub least-of : (s : ℕ) (best : Option SizedDesign) (ds : List Design) → SomeOf (λ d. (is_admitted d ≡ true) × (size d ≡ s)) ds
    → Reached (best_of best ds) s
unfolding best_of
least-of s best [] some = absurd some
least-of s best (d ∷ ds) some =
    ⊎_elim (λ here. no_more (better best d) ds s (rw here.1 at (turn-least best d here.0)))
    (λ there. least-of s (better best d) ds there) some

-- One with as many bits as the best is the best, or comes after it.
pub record After (R : Design → Design → Type 0) (T : Design → Type 0) (d : Design) : Type 0 where
  pub e : Design
  pub is : T e
  pub place : (d ≡ e) ⊎ R d e

later : (R : Design → Design → Type 0) (T : Design → Type 0) (d : Design) (ds : List Design) → All (R d) ds → SomeOf T ds → After R T d
later R T d [] all some = absurd some
later R T d (e ∷ ds) all some =
    ⊎_elim (λ here. record { e = e; is = here; place = inr all.0 }) (λ there. later R T d ds all.1 there) some

module _ (R : Design → Design → Type 0) (T : Design → Type 0) (s : ℕ) where
  abbrev Counts : Design → Type 0
  Counts d = T d × (is_admitted d ≡ true) × (size d ≡ s)

  -- nothing fewer comes after a design of s bits that was taken
  settled : (best : Option SizedDesign) (d : Design) (ds : List Design) (found : SizedDesign) → Reached (better best d) s
      → fewer s best ≡ true → best_of (better best d) ds ≡ Some found → found.bits ≡ s → found.design ≡ d
  settled best d ds found few below e bits = elim (turn best d) [
    | stands is many ↦ absurd (not-both best s below (rw is at few))
    | taken is admitted less ↦
        let size-few : size d ≤ s = rw is at few in
        ap (λ (found : SizedDesign). found.design) (unchanged (record { design = d; bits = size d }) ds found (rw is at e) (rw bits size-few))
  ]

  pub first_of : (best : Option SizedDesign) (ds : List Design) (found : SizedDesign) → Ordered R ds → SomeOf Counts ds → fewer s best ≡ true
      → best_of best ds ≡ Some found → found.bits ≡ s → After R Counts found.design
  unfolding best_of
  first_of best [] found ordered some below e bits = absurd some
  first_of best (d ∷ ds) found ordered some below e bits =
      ⊎_elim
      (λ (here : Counts d). record {
        e = d;
        is = here;
        place = inl (settled best d ds found (rw here.2 at (turn-least best d here.1)) below e bits);
      })
      (λ there. by there (λ less. first_of (better best d) ds found ordered.1 there less e bits) (fewer s (better best d)) refl) some where
        by : SomeOf Counts ds → (fewer s (better best d) ≡ true → After R Counts found.design) → (less : Bool)
            → fewer s (better best d) ≡ less → After R Counts found.design
        by there rest true h = rest h
        by there rest false h =
            rw (settled best d ds found (is-reached (better best d) s h) below e bits) (later R Counts d ds ordered.0 there)
