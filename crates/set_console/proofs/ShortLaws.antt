-- Tables that hold every legal set are never too short: 10 turns no line down.
use Rattle.std.specs.Prelude.{Ok, Err}
use mathlib.Core.Path.{◌≡◌, refl, sym, ap, ◌∙◌}
use mathlib.Core.Bool.{Bool, true, false, cond, not, ◌&&◌, true≢false}
use mathlib.Core.List.{List, [], ◌∷◌, ◌++◌}
use Prim.Native.Nat.{ℕ, zero, suc}
use native.Mathlib.Omega.{arith}
use lib.Dec.{eqb}
use lib.ListN.{length}
use borrow.Author.Tests.{not-false}
use Rattle.general.proofs.Tests.{both}
use Rattle.refusal.specs.declared.Cause.{Cause}
use Rattle.refusal.specs.Verdict.{Verdict}
use Rattle.refusal.specs.Numbers.{number_of, verdict_number}
use Rattle.refusal.specs.Checks.{Check, verdict, refuses}
use Rattle.refusal.proofs.Checks.{after, verdict-append, none-fails, passed-append}
use Rattle.values.specs.Widths.{width_checks}
use Rattle.design.specs.Legal.{Legal, cut_checks, design_checks}
use Rattle.tables.specs.Set.{tables_check}
use Rattle.tables.proofs.SetLaws.{tables-long}
use Rattle.frames.specs.Hex.{bytes_of}
use Rattle.frames.specs.Line.{is_empty, line_checks}
use Rattle.frames.specs.DesignFrame.{frame_checks, first_checks}
use Rattle.frames.proofs.FrameLaws.{first_frame}
use Rattle.reading.specs.declared.Reading.{Reading}
use Rattle.reading.specs.ReadLine.{possible, state_check, empty_check, design_after, later_checks, due_checks, Session, verdict_on}
use Rattle.reading.proofs.ReadLaws.{first-design, later-design, begun, empty-verdict, some-verdict}
use Rattle.set_console.specs.Reading.{HoldsEverySet}

-- No check of the list has the number 10.
abbrev others : List Check → Bool
others [] = true
others (check ∷ checks) = not (eqb (number_of check.cause) 10) && others checks

not_short : (checks : List Check) → others checks ≡ true → verdict checks ≡ Err Cause.TablesShort → ⊥
not_short [] h e = let z : ◌≡◌ {A = ℕ} 0 1 = cc in omega arith
not_short (check ∷ checks) h e =
    let parts = both (not (eqb (number_of check.cause) 10)) (others checks) h in
    go check.fails check.cause parts.0 e (not_short checks parts.1)
  where
    go : (fails : Bool) (cause : Cause) → not (eqb (number_of cause) 10) ≡ true
        → refuses fails cause (verdict checks) ≡ Err Cause.TablesShort
        → (verdict checks ≡ Err Cause.TablesShort → ⊥) → ⊥
    go true cause other same rest =
        let number : number_of cause ≡ 10 = ap verdict_number same in
        true≢false (sym other ∙ rw number)
    go false cause other same rest = rest same

-- Where 10 is tried last, and passes once all others have, it is not the cause.
last-passes : (checks : List Check) (last : Check) → others checks ≡ true → (verdict checks ≡ (Ok tt) → last.fails ≡ false)
    → verdict (checks ++ last ∷ []) ≡ Err Cause.TablesShort → ⊥
last-passes checks last h passes e = go (verdict checks) refl (sym (verdict-append checks (last ∷ [])) ∙ e)
  where
    go : (v : Verdict) → verdict checks ≡ v → after v (verdict (last ∷ [])) ≡ Err Cause.TablesShort → ⊥
    go (Ok tt) is same =
        let passed : (Ok tt) ≡ Err Cause.TablesShort = rw (passes is) at same in
        let z : ◌≡◌ {A = ℕ} 0 1 = cc in
        omega arith
    go (Err cause) is same = not_short checks h (is ∙ same)

module _ (s : Session) (line : List ℕ) where
  abbrev state : Reading
  state = s.state

  abbrev bytes : List ℕ
  bytes = bytes_of line

  -- What is tried of a frame before 10
  abbrev tried : List Check
  tried = cond (eqb state.taken 0) (first_checks bytes (length bytes)) (later_checks state bytes)

  frame-others : others tried ≡ true
  unfolding first_checks frame_checks design_checks width_checks cut_checks later_checks
  frame-others = go (eqb state.taken 0)
    where
      go : (none : Bool) → others (cond none (first_checks bytes (length bytes)) (later_checks state bytes)) ≡ true
      go true = refl
      go false = refl

  -- and of the line before that
  abbrev before : List Check
  before = state_check state ∷ line_checks line ++ tried

  -- Where all that passes, the design that counts is legal.
  legal-then : verdict before ≡ (Ok tt) → Legal (design_after state bytes)
  unfolding state_check
  legal-then e =
      let parts = passed-append (state_check state ∷ line_checks line) tried e in
      let sound = none-fails (state_check state ∷ line_checks line) parts.0 in
      go state.taken refl (not-false _ sound.0) parts.1
    where
      go : (n : ℕ) → state.taken ≡ n → possible state ≡ true → verdict tried ≡ (Ok tt) → Legal (design_after state bytes)
      go zero none can frame =
          let first : verdict (first_checks bytes (length bytes)) ≡ (Ok tt) = rw none at frame in
          rw (first-design state bytes none) (first_frame bytes (length bytes) first).legal
      go (suc n) some can frame =
          let begins = begun state (omega (arith, some)) can in
          rw (later-design state bytes begins.some) begins.legal

  pub never-short : HoldsEverySet (length s.initial) (length s.offsets) → verdict_on s line ≡ Err Cause.TablesShort → ⊥
  unfolding verdict_on state_check empty_check line_checks due_checks
  never-short holds e = go (is_empty line) refl
    where
      go : (empty : Bool) → is_empty line ≡ empty → ⊥
      go true is =
          not_short (state_check state ∷ empty_check state ∷ []) refl
          (sym (empty-verdict state (length s.initial) (length s.offsets) line is) ∙ e)
      go false is =
          last-passes before (tables_check (design_after state bytes) (length s.initial) (length s.offsets)) frame-others
          (λ passed. tables-long _ _ _ (holds _ (legal-then passed)))
          (sym (some-verdict state (length s.initial) (length s.offsets) line is) ∙ e)
