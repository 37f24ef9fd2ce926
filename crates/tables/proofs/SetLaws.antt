-- What refusals 1 to 10 come to, and what a set that passes them tells.
use Rattle.std.specs.Prelude.{Ok, Err}
use mathlib.Core.Path.{◌≡◌, ◌∙◌}
use mathlib.Core.Bool.{Bool, true, false}
use mathlib.Core.List.{[], ◌∷◌}
use Prim.Native.Nat.{ℕ, ◌≤◌, ◌<◌}
use lib.Dec.{ltb}
use borrow.Author.Tests.{ltb-false, lt-ltb, le-ltb}
use Rattle.general.proofs.Tests.{neither}
use Rattle.refusal.specs.declared.Cause.{Cause}
use Rattle.refusal.specs.Checks.{verdict, refuses}
use Rattle.refusal.proofs.Checks.{verdict-append, passed-append, none-fails}
use Rattle.design.specs.declared.Design.{Design}
use Rattle.design.specs.Stored.{initial_count, offset_total}
use Rattle.design.specs.Legal.{design_checks, design_verdict, Legal}
use Rattle.tables.specs.Inputs.{Usable}
use Rattle.tables.specs.Set.{tables_check, set_checks}

module _ (d : Design) (initial offsets : ℕ) where
  pub set-refused : (cause : Cause) → design_verdict d ≡ Err cause
      → verdict (set_checks d initial offsets) ≡ Err cause
  unfolding set_checks design_verdict
  set-refused cause e = rw (verdict-append, e)

  -- what a legal design's tables are tried for
  pub set-lengths : (short : Bool) → Legal d → (tables_check d initial offsets).fails ≡ short
      → verdict (set_checks d initial offsets) ≡ refuses short Cause.TablesShort (Ok tt)
  unfolding set_checks design_verdict tables_check
  set-lengths short legal e = rw (verdict-append, legal, e)

  -- either length decides it
  pub initial-short : initial < initial_count d → (tables_check d initial offsets).fails ≡ true
  unfolding tables_check
  initial-short h = rw (lt-ltb _ _ h)

  pub offsets-tried : initial_count d ≤ initial → (tables_check d initial offsets).fails ≡ ltb offsets (offset_total d)
  unfolding tables_check
  offsets-tried h = rw (le-ltb _ _ h)

  pub tables-long : Usable d initial offsets → (tables_check d initial offsets).fails ≡ false
  tables-long u = offsets-tried u.initial-long ∙ le-ltb _ _ u.offsets-long

  pub set-passed : Usable d initial offsets → verdict (set_checks d initial offsets) ≡ (Ok tt)
  set-passed u = set-lengths false u.legal (tables-long u)

  pub usable : verdict (set_checks d initial offsets) ≡ (Ok tt) → Usable d initial offsets
  unfolding set_checks design_verdict tables_check
  usable e =
      let lists = passed-append (design_checks d) (tables_check d initial offsets ∷ []) e in
      let long = neither _ _ (none-fails (tables_check d initial offsets ∷ []) lists.1).0 in
      record {
        legal = lists.0;
        initial-long = ltb-false _ _ long.0;
        offsets-long = ltb-false _ _ long.1;
      }
