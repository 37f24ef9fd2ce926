-- The statement of Optimum.antt holds.
use Rattle.std.specs.Prelude.{Option, None, Some, Ok, Err, ok_or}
use mathlib.Core.Path.{◌≡◌, refl, sym, ap, ◌∙◌}
use mathlib.Core.Bool.{true}
use mathlib.Core.Logic.{◌⊎◌, inl, inr, ⊎_elim}
use Prim.Native.Nat.{ℕ}
use native.Mathlib.Omega.{arith}
use Rattle.general.proofs.JoinedLaws.{Some as SomeOf, some-weaker}
use Rattle.refusal.specs.declared.Cause.{Cause}
use Rattle.refusal.specs.Verdict.{Verdict}
use Rattle.refusal.specs.Checks.{verdict, if_passed}
use Rattle.values.specs.Widths.{limits_of, function_checks}
use Rattle.design.specs.declared.Pair.{Pair}
use Rattle.design.specs.declared.Design.{Design}
use Rattle.design.specs.Cut.{a_of, b_of}
use Rattle.design.specs.Same.{Same}
use Rattle.design.specs.Budget.{Admitted}
use Rattle.design.proofs.LegalLaws.{limits}
use Rattle.design.proofs.SameLaws.{pair_same, verdict-same, budget-same, limit-same}
use Rattle.sizing.specs.Size.{size}
use Rattle.sizing.proofs.SizeLaws.{size_same}
use Rattle.searching.specs.declared.SizedDesign.{SizedDesign}
use Rattle.searching.specs.Designs.{designs}
use Rattle.searching.specs.Best.{is_admitted, fewer, smallest_of, smallest_answer}
use Rattle.searching.proofs.BestLaws.{Reached}
use Rattle.searching.proofs.AdmittedLaws.{admitted-so, so-admitted}
use Rattle.optimum.specs.Order.{SameBefore, Before, by-g, by-alpha, by-m, by-a, by-b}
use Rattle.optimum.specs.Optimum.{Of, Cheapest, Optimum}
use Rattle.optimum.proofs.OrderLaws.{not-both}
use Rattle.optimum.proofs.BestIs.{Element, found_in, least-of, first_of}
use Rattle.optimum.proofs.Listed.{Listed, all_listed, in_list}
use Rattle.optimum.proofs.Sorted.{sorted}

-- What is admitted of a design is so of one of which the same is read.
admitted-same : (c e : Design) → Same c e → Admitted e → Admitted c
admitted-same c e s a =
    record { legal = verdict-same c e s ∙ a.legal; within = rw (budget-same c e s, limit-same c e s) a.within }

-- and the order does not ask for more
module _ (d c e : Design) (s : Same c e) where
  same_then : (i : ℕ) → SameBefore d c i → SameBefore d e i
  same_then i t =
      record {
        g = t.g ∙ s.g;
        alpha = t.alpha ∙ s.alpha;
        m = t.m ∙ s.m;
        pairs = λ j h. t.pairs j h ∙ pair_same c e s j;
      }

  a-same : (i : ℕ) → a_of c i ≡ a_of e i
  a-same i = ap (λ (pair : Pair). pair.a) (pair_same c e s i)

  b-same : (i : ℕ) → b_of c i ≡ b_of e i
  b-same i = ap (λ (pair : Pair). pair.b) (pair_same c e s i)

  before_same : Before d c → Before d e
  before_same (by-g less) = by-g (rw s.g at less)
  before_same (by-alpha g less) = by-alpha (g ∙ s.g) (rw s.alpha at less)
  before_same (by-m g alpha less) = by-m (g ∙ s.g) (alpha ∙ s.alpha) (rw s.m at less)
  before_same (by-a i within t less) = by-a i within (same_then i t) (rw (a-same i) at less)
  before_same (by-b i within t equal less) = by-b i within (same_then i t) (equal ∙ a-same i) (rw (b-same i) at less)

-- What is found, by the option and by the answer
not-found : {found : SizedDesign} → ◌≡◌ {A = Option SizedDesign} None (Some found) → ⊥
not-found e = let z : ◌≡◌ {A = ℕ} 0 1 = cc in absurd (omega arith)

is-some : (best : Option SizedDesign) (n : ℕ) → Reached best n → (found : SizedDesign) × (best ≡ Some found)
is-some None n reached = absurd reached
is-some (Some found) n reached = (found, refl)

found_by : (v : Verdict) (best : Option SizedDesign) (found : SizedDesign) → if_passed v (ok_or best Cause.NoneAdmitted) Err ≡ Ok found
    → best ≡ Some found
found_by (Ok tt) None found e = let z : ◌≡◌ {A = ℕ} 0 1 = cc in absurd (omega arith)
found_by (Ok tt) (Some best) found e = cc
found_by (Err cause) best found e = let z : ◌≡◌ {A = ℕ} 0 1 = cc in absurd (omega arith)

module _ (kind w q : ℕ) where
  -- an admitted design of the kind, w and q, as one in the list with its size
  counted : (e : Design) → Of kind w q e → Admitted e → SomeOf (λ c. Same c e × (is_admitted c ≡ true) × (size c ≡ size e)) (designs kind w q)
  counted e of a =
      some-weaker (λ c s. (s, so-admitted c (admitted-same c e s a), size_same c e s)) (designs kind w q)
      (in_list e (limits e a.legal) kind w q of)

  least : (e : Design) → Of kind w q e → Admitted e → Reached (smallest_of kind w q) (size e)
  unfolding smallest_of
  least e of a =
      least-of (size e) None (designs kind w q) (some-weaker (λ c p. (p.1, p.2)) (designs kind w q) (counted e of a))

  -- what is found
  module _ (found : SizedDesign) (is : smallest_of kind w q ≡ Some found) where
    first : (e : Design) → Of kind w q e → Admitted e → size e ≡ found.bits → Same found.design e ⊎ Before found.design e
    unfolding smallest_of fewer
    first e of a equal =
        let after = first_of Before (λ c. Same c e) (size e) None (designs kind w q) found (sorted kind w q) (counted e of a) refl is (sym equal) in
        ⊎_elim (λ same. inl (rw same after.is.0)) (λ before. inr (before_same _ _ e after.is.0 before)) after.place

    element : Element (Listed kind w q) found
    unfolding smallest_of
    element =
        ⊎_elim (λ none. absurd (not-found none)) (λ element. element)
        (found_in (Listed kind w q) None (designs kind w q) found (all_listed kind w q) is)

    cheapest : Cheapest kind w q found
    cheapest =
        record {
          of = element.has.of;
          admitted = admitted-so _ element.admitted;
          zeros = element.has.zeros;
          bits = element.bits;
          least = λ e of a. rw is at (least e of a);
          first = first;
        }

  -- with the checks
  given : (found : SizedDesign) → smallest_answer kind w q ≡ Ok found → Cheapest kind w q found
  unfolding smallest_answer
  given found e = cheapest found (found_by (verdict (function_checks (limits_of kind) kind w q)) (smallest_of kind w q) found e)

  checked : (cause : Cause) → verdict (function_checks (limits_of kind) kind w q) ≡ Err cause → smallest_answer kind w q ≡ Err cause
  unfolding smallest_answer
  checked cause e = rw e

  module _ (passed : verdict (function_checks (limits_of kind) kind w q) ≡ Ok tt) where
    by : (best : Option SizedDesign) → smallest_of kind w q ≡ best → smallest_answer kind w q ≡ ok_or best Cause.NoneAdmitted
    unfolding smallest_answer
    by best e = rw (passed, e)

    some : (e : Design) → Of kind w q e → Admitted e → (found : SizedDesign) × (smallest_answer kind w q ≡ Ok found)
    some e of a = let found = is-some (smallest_of kind w q) (size e) (least e of a) in (found.0, by (Some found.0) found.1)

    none-means : smallest_answer kind w q ≡ Err Cause.NoneAdmitted → (e : Design) → Of kind w q e → Admitted e → ⊥
    none-means refused e of a = let given = some e of a in let z : ◌≡◌ {A = ℕ} 0 1 = cc (refused, given.1) in absurd (omega arith)

    means-none : ((e : Design) → Of kind w q e → Admitted e → ⊥) → smallest_answer kind w q ≡ Err Cause.NoneAdmitted
    means-none none = cases (smallest_of kind w q) refl where
      cases : (best : Option SizedDesign) → smallest_of kind w q ≡ best → smallest_answer kind w q ≡ Err Cause.NoneAdmitted
      cases None e = by None e
      cases (Some found) e = let is = cheapest found e in absurd (none _ is.of is.admitted)

pub optimum : Optimum
optimum =
    record {
      checked = checked;
      some = some;
      none = λ kind w q passed. (none-means kind w q passed, means-none kind w q passed);
      strict = not-both;
      found = given;
    }
