-- Document 02, A5, whole: what the call `smallest` hands back, and when it is refused.
use Rattle.std.specs.Prelude.{◌≡◌, ◌⊎◌, ◌↔◌, ℕ, ◌≤◌, get_or, Ok, Err}
use Rattle.refusal.specs.declared.Cause.{Cause}
use Rattle.refusal.specs.Checks.{verdict}
use Rattle.values.specs.Widths.{limits_of, function_checks}
use Rattle.design.specs.declared.Design.{Design}
use Rattle.design.specs.Cut.{no_pair}
use Rattle.design.specs.Same.{Same}
use Rattle.design.specs.Budget.{Admitted}
use Rattle.sizing.specs.Size.{size}
use Rattle.searching.specs.declared.SizedDesign.{SizedDesign}
use Rattle.searching.specs.Best.{smallest_answer}
use Rattle.optimum.specs.Order.{Before}

-- "of that kind, w and q"
pub record Of (kind w q : ℕ) (d : Design) : Type 0 where
  pub kind-is : d.kind ≡ kind
  pub w-is : d.w ≡ w
  pub q-is : d.q ≡ q

-- "hand back an admitted one, its pairs beyond m all 0, with its size in bits"
pub record Cheapest (kind w q : ℕ) (found : SizedDesign) : Type 0 where
  pub of : Of kind w q found.design
  pub admitted : Admitted found.design
  pub zeros : (i : ℕ) → found.design.m ≤ i → get_or found.design.pairs i no_pair ≡ no_pair
  pub bits : found.bits ≡ size found.design
  -- "every other admitted design of that kind, w and q has at least as many bits"
  pub least : (e : Design) → Of kind w q e → Admitted e → found.bits ≤ size e
  -- "Among equals take the first": any other of as many bits comes later, pairs beyond m apart, which are not read
  pub first : (e : Design) → Of kind w q e → Admitted e → size e ≡ found.bits → Same found.design e ⊎ Before found.design e

pub record Optimum : Type 0 where
  -- "Kind, w and q are checked as before": 1, 2, 3
  pub checked : (kind w q : ℕ) (cause : Cause) → verdict (function_checks (limits_of kind) kind w q) ≡ Err cause
      → smallest_answer kind w q ≡ Err cause
  -- "24, no legal design of that kind, w and q is admitted; after 3"
  pub none : (kind w q : ℕ) → verdict (function_checks (limits_of kind) kind w q) ≡ Ok tt
      → (smallest_answer kind w q ≡ Err Cause.NoneAdmitted) ↔ ((e : Design) → Of kind w q e → Admitted e → ⊥)
  -- and else a design is handed back,
  pub some : (kind w q : ℕ) → verdict (function_checks (limits_of kind) kind w q) ≡ Ok tt
      → (e : Design) → Of kind w q e → Admitted e → (found : SizedDesign) × (smallest_answer kind w q ≡ Ok found)
  -- which is this one.
  pub found : (kind w q : ℕ) (found : SizedDesign) → smallest_answer kind w q ≡ Ok found → Cheapest kind w q found
  -- What comes later does not come before.
  pub strict : (d e : Design) → Before d e → Before e d → ⊥
