-- `tables::sums::is_outside` meets its contract: the two tests, on a sum and a limit that 64 bits hold.
use mathlib.Core.Path.{◌≡◌, refl, sym, ap, subst, ◌∙◌}
use mathlib.Core.Bool.{Bool, true, false, ◌||◌, true≢false}
use native.Mathlib.Omega.{arith}
use lib.IntN.{ℤ, pos}
use lib.Signed.{lt_z, le_z}
use borrow.Author.Rules.{rules}
use mir.Syntax.{w64}
use mir.ValLaws.{to_z_pos, to_z-of_z}
use Rattle.tables.proofs.sums.is_outside.Goals as goal

first : (a b : Bool) → a ≡ true → a ≡ a || b
first true b e = refl
first false b e = absurd (true≢false (sym e))

second : (a b : Bool) → a ≡ false → b ≡ a || b
second true b e = absurd (true≢false e)
second false b e = refl

-- the tests on the sum that the machine holds, which is Y
module _ (limit : ℤ) (Y held : ℤ) (same : held ≡ Y) where
  abbrev outside : ℤ → Bool
  outside z = lt_z z (pos 0) || le_z limit z

  below : lt_z held (pos 0) ≡ true → lt_z held (pos 0) ≡ outside Y
  below e = subst (λ (z : ℤ). lt_z held (pos 0) ≡ outside z) same (first _ _ e)

  above : (machine : ℤ) → machine ≡ limit → lt_z held (pos 0) ≡ false → le_z machine held ≡ outside Y
  above machine is e =
      subst (λ (z : ℤ). le_z machine held ≡ outside z) same (ap (λ (z : ℤ). le_z z held) is ∙ second _ _ e)

pub overflow_cast-limit : goal.overflow_cast-limit
overflow_cast-limit c = record { sfits = omega (arith, c.requires) }

pub returns-else-sum-lt0 : goal.returns-else-sum-lt0
returns-else-sum-lt0 c =
    let a = c.args in
    above (pos a.limit) a.sum.0 _ (to_z-of_z w64 a.sum.0 (search rules)) _ (to_z_pos w64 a.limit (omega (arith, c.requires))) c.if-sum-lt0.false

pub returns-then-sum-lt0 : goal.returns-then-sum-lt0
returns-then-sum-lt0 c =
    let a = c.args in
    below (pos a.limit) a.sum.0 _ (to_z-of_z w64 a.sum.0 (search rules)) c.if-sum-lt0.true
