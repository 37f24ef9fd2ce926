-- `exports::sum_answer` meets its contract: the verdict of the set, then the word, then the sum.
use Rattle.std.specs.Prelude.{Ok, Err}
use mathlib.Core.Path.{◌≡◌, sym, ap, ◌∙◌}
use mathlib.Core.List.{List}
use Prim.Native.Nat.{ℕ, ◌^◌, ◌≤◌, ◌<◌}
use native.Mathlib.Omega.{arith}
use borrow.Author.Rules.{rules}
use borrow.Author.Tests.{le-leb, lt-leb}
use mir.Syntax.{w64}
use mir.ValLaws.{to_z-of_z}
use lib.ListN.{length}
use lib.IntN.{ℤ}
use Rattle.std.proofs.lemmas.Result.{err_from_is_err_and}
use Rattle.refusal.specs.declared.Cause.{Cause}
use Rattle.refusal.specs.Checks.{verdict}
use Rattle.refusal.specs.Told.{accepted, refused}
use Rattle.refusal.specs.Numbers.{number_of}
use Rattle.refusal.proofs.Checks.{verdict-append}
use Rattle.values.specs.declared.TableUnits.{TableUnits}
use Rattle.values.specs.Value.{word_check}
use Rattle.design.specs.declared.Design.{Design}
use Rattle.tables.specs.Set.{set_checks}
use Rattle.tables.specs.Sum.{sum_at}
use Rattle.exports.specs.Behind.{sum_verdict, sum_told}
use Rattle.exports.proofs.WordCount.{few_bits}
use Rattle.exports.proofs.sum_answer.Goals as goal

-- What is told by the verdicts of the set and of the word.
module _ (d : Design) (initial : List ℕ) (offsets : List ℤ) (x : ℕ) where
  set-refused : (cause : Cause) → verdict (set_checks d (length initial) (length offsets)) ≡ Err cause
      → refused (number_of cause) 0 ≡ sum_told d initial offsets x
  unfolding sum_told sum_verdict
  set-refused cause e = rw (verdict-append, e)

  module _ (set : verdict (set_checks d (length initial) (length offsets)) ≡ Ok tt) where
    word-refused : 2 ^ d.w ≤ x → refused (number_of Cause.WordRange) 0 ≡ sum_told d initial offsets x
    unfolding sum_told sum_verdict word_check
    word-refused h = rw (verdict-append, set, le-leb _ _ h)

    summed : x < 2 ^ d.w → accepted (sum_at d initial offsets x) ≡ sum_told d initial offsets x
    unfolding sum_told sum_verdict word_check
    summed h = rw (verdict-append, set, lt-leb _ _ h)

pub returns-in_err-set : goal.returns-in_err-set
returns-in_err-set c =
    let r = err_from_is_err_and c.from_residual.result c.from_residual.ensures.1 in
    rw (r.1, r.2) (set-refused _ _ _ _ _ (sym c.in_err-set.ensures.verdict))

pub pow2-requires : goal.pow2-requires
pow2-requires c =
    let kept = c.in_ok-set.ensures.kept in
    omega (arith, few_bits _ (rw kept.0 at c.in_ok-set.set.tables.legal))

pub returns-then-pow2-x : goal.returns-then-pow2-x
returns-then-pow2-x c = word-refused _ _ _ _ (sym c.in_ok-set.ensures.verdict) (rw c.pow2.ensures at c.if-pow2-x.true)

pub returns : goal.returns
returns c =
    let held = to_z-of_z w64 c.sum_of.result.0 (search rules) in
    let kept = c.in_ok-set.ensures.kept in
    let told = summed _ _ _ _ (sym c.in_ok-set.ensures.verdict) (rw c.pow2.ensures at c.if-pow2-x.false) in
    ap accepted (held ∙ ap (λ (units : TableUnits). units.0) (rw (kept.0, kept.1, kept.2) at c.sum_of.ensures)) ∙ told
