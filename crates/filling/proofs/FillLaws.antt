-- What the checks of the fill come to, and what its answer promises of the tables.
use Rattle.std.specs.Prelude.{Ok, Err}
use mathlib.Core.Path.{◌≡◌, refl, ◌∙◌}
use mathlib.Core.List.{List}
use Prim.Native.Nat.{ℕ, ◌≤◌, ◌<◌}
use lib.IntN.{ℤ}
use lib.ListN.{length}
use Rattle.general.specs.Lists.{over}
use Rattle.general.proofs.WritingLaws.{over-start}
use Rattle.refusal.specs.declared.Cause.{Cause}
use Rattle.refusal.specs.Verdict.{Verdict}
use Rattle.refusal.specs.Numbers.{verdict_number}
use Rattle.refusal.specs.Checks.{verdict}
use Rattle.design.specs.declared.Design.{Design}
use Rattle.design.specs.Budget.{budget, limit}
use Rattle.design.proofs.AdmittedLaws as AdmittedLaws
use Rattle.tables.specs.Set.{set_checks}
use Rattle.filling.specs.Fill.{fill_verdict, initial_entries, offset_entries, initial_after, offsets_after}

-- "fill 1 to 11"
module _ (d : Design) (initial offsets : ℕ) where
  pub refused-before : {cause : Cause} → verdict (set_checks d initial offsets) ≡ Err cause
      → fill_verdict d initial offsets ≡ Err cause
  unfolding fill_verdict
  refused-before e = AdmittedLaws.refused-before d (set_checks d initial offsets) _ e

  module _ (passed : verdict (set_checks d initial offsets) ≡ (Ok tt)) where
    pub not-admitted : limit d ≤ budget d → fill_verdict d initial offsets ≡ Err Cause.NotAdmitted
    unfolding fill_verdict
    not-admitted = AdmittedLaws.not-admitted d (set_checks d initial offsets) passed

    pub admitted : budget d < limit d → fill_verdict d initial offsets ≡ (Ok tt)
    unfolding fill_verdict
    admitted = AdmittedLaws.admitted d (set_checks d initial offsets) passed

module _ (d : Design) (initial : List ℕ) (offsets : List ℤ) where
  -- what is promised of an answer and of what the tables are left with
  abbrev pub Promised : Verdict → List ℕ → List ℤ → Type 0
  Promised r initial' offsets' =
      let due = fill_verdict d (length initial) (length offsets) in
      record {
        answer : r ≡ due;
        number : verdict_number r ≡ verdict_number due;
        initial_table : initial' ≡ initial_after d initial offsets;
        offset_tables : offsets' ≡ offsets_after d initial offsets;
      }

  pub refuses : {cause : Cause} → fill_verdict d (length initial) (length offsets) ≡ Err cause
      → Promised (Err cause) initial offsets
  unfolding initial_after offsets_after
  refuses e = rw e (record { answer = refl; number = refl; initial_table = refl; offset_tables = refl })

  pub fills : {initial' : List ℕ} {offsets' : List ℤ} → fill_verdict d (length initial) (length offsets) ≡ (Ok tt)
      → initial' ≡ over initial 0 (initial_entries d) → offsets' ≡ over offsets 0 (offset_entries d)
      → Promised (Ok tt) initial' offsets'
  unfolding initial_after offsets_after
  fills e initial-is offsets-is =
      rw e
      (record {
        answer = refl;
        number = refl;
        initial_table = initial-is ∙ over-start initial (initial_entries d);
        offset_tables = offsets-is ∙ over-start offsets (offset_entries d);
      })
