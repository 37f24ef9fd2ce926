-- Where a design is known to be legal, so that it has 2^w words.
use Rattle.std.specs.Prelude.{Ok, None}
use mathlib.Core.Path.{◌≡◌}
use mathlib.Core.List.{List}
use Prim.Native.Nat.{ℕ, ◌<◌}
use native.Mathlib.Omega.{arith}
use lib.ListN.{length}
use lib.IntN.{ℤ}
use Rattle.refusal.proofs.Answers.{answer-given}
use Rattle.design.specs.declared.Design.{Design}
use Rattle.design.specs.Legal.{Legal}
use Rattle.design.proofs.LegalLaws.{limits}
use Rattle.tables.proofs.SetLaws.{usable}
use Rattle.checking.specs.Check.{check_verdict, check_answer}

pub few_bits : (d : Design) → Legal d → d.w < 64
few_bits d legal = omega (arith, (limits d legal).widths.room.w-small)

pub faithful-legal : (d : Design) (initial : List ℕ) (offsets : List ℤ) → check_answer d initial offsets ≡ Ok None → Legal d
unfolding check_answer check_verdict
faithful-legal d initial offsets e = (usable d (length initial) (length offsets) (answer-given _ _ e).0).legal
