-- `evaluating::range::width_answer` meets its contract: the first word of more than w bits is the lowest that is refused.
use Rattle.std.specs.Prelude.{Ok, Err, Option, Some, None}
use mathlib.Core.Path.{◌≡◌, sym, subst}
use mathlib.Core.List.{List, [], ◌∷◌}
use Prim.Native.Nat.{ℕ, ◌^◌, ◌≤◌, ◌<◌}
use native.Mathlib.Omega.{arith}
use borrow.Author.Tests.{le-leb, lt-leb}
use lib.ListN.{length}
use Rattle.std.proofs.Common.{rules}
use Rattle.std.specs.Option.{MatchOption}
use Rattle.std.specs.List.{AllWithin, HoldsAt}
use Rattle.std.proofs.lemmas.Iterator.{IsFirst-from_position, YieldsList-from_slice}
use Rattle.refusal.specs.declared.Cause.{Cause}
use Rattle.refusal.specs.Checks.{verdict}
use Rattle.values.specs.Value.{word_check}
use Rattle.evaluating.specs.Batch.{refused_at}
use Rattle.evaluating.specs.Range.{width_answer}
use Rattle.evaluating.proofs.BatchLaws.{batch-all, batch-bad}
use Rattle.evaluating.proofs.range.width_answer.Goals as goal

-- 12 of one word
wide : (w x : ℕ) → 2 ^ w ≤ x → verdict (word_check w x ∷ []) ≡ Err Cause.WordRange
unfolding word_check
wide w x h = simp (le-leb _ _ h)

narrow : (w x : ℕ) → x < 2 ^ w → verdict (word_check w x ∷ []) ≡ Ok tt
unfolding word_check
narrow w x h = simp (lt-leb _ _ h)

module _ (w : ℕ) (words : List ℕ) where
  abbrev First : Option ℕ → Type 0
  First place =
      MatchOption place (AllWithin (λ (x : ℕ). x < 2 ^ w) words 0 (length words))
      (λ i. (i < length words) × HoldsAt (λ (x : ℕ). 2 ^ w ≤ x) words i × AllWithin (λ (x : ℕ). x < 2 ^ w) words 0 i)

  found : (i : ℕ) → First (Some i) → refused_at i Cause.WordRange ≡ width_answer w words
  unfolding width_answer
  found i p = sym (batch-bad _ _ _ _ p.0 (λ j h. narrow w _ (p.2 j 0 (omega arith) h)) (wide w _ (p.1 0)))

  none : First None → Ok (length words) ≡ width_answer w words
  unfolding width_answer
  none p = sym (batch-all _ _ (λ j h. narrow w _ (p j 0 (omega arith) h)))

pub returns-in-Some : goal.returns-in-Some
returns-in-Some c =
    let first : First c.args.w c.args.words.now c.position.result =
    IsFirst-from_position _ _ _ (λ x. 2 ^ c.args.w ≤ x) (λ x. x < 2 ^ c.args.w) c.position.ensures.ran (YieldsList-from_slice c.args.words.now cc)
    (λ x q k. search rules) (λ x q k. search rules) in
    found _ _ _ (subst (First c.args.w c.args.words.now) c.in-Some.is first)

pub returns-in-None : goal.returns-in-None
returns-in-None c =
    let first : First c.args.w c.args.words.now c.position.result =
    IsFirst-from_position _ _ _ (λ x. 2 ^ c.args.w ≤ x) (λ x. x < 2 ^ c.args.w) c.position.ensures.ran (YieldsList-from_slice c.args.words.now cc)
    (λ x q k. search rules) (λ x q k. search rules) in
    none _ _ (subst (First c.args.w c.args.words.now) c.in-None.is first)
