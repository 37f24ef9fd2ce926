-- Document 02, A5: which design the call `smallest` hands back.
use Rattle.std.specs.Prelude.{Option, None, Some, Result, Err, ok_or, Bool, true, cond, ◌&&◌, List, [], ◌∷◌, ℕ, ltb}
use Rattle.refusal.specs.declared.Cause.{Cause}
use Rattle.refusal.specs.Numbers.{number_of}
use Rattle.refusal.specs.Checks.{verdict, if_passed, passes}
use Rattle.refusal.specs.Told.{Told, accepted, refused}
use Rattle.values.specs.Widths.{limits_of, function_checks}
use Rattle.design.specs.declared.Design.{Design}
use Rattle.design.specs.Legal.{design_verdict}
use Rattle.design.specs.Budget.{within_limit}
use Rattle.sizing.specs.Size.{size}
use Rattle.searching.specs.declared.SizedDesign.{SizedDesign}
use Rattle.searching.specs.Designs.{designs}

-- "A legal design is **admitted** when the budget is less than 2^(g+17)", as a test
unfoldable pub is_admitted : Design → Bool
is_admitted d = passes (design_verdict d) && within_limit d

-- Whether so many bits are fewer than those of the best so far; any number is where none is found yet.
unfoldable pub fewer : ℕ → Option SizedDesign → Bool
fewer bits None = true
fewer bits (Some best) = ltb bits best.bits

-- "hand back an admitted one .. with its size in bits; every other admitted design .. has at least as many bits. Among equals take the
-- first": of designs in order, one takes the place of the best before it only where it is admitted and has fewer bits.
unfoldable pub better : Option SizedDesign → Design → Option SizedDesign
better best d = cond (is_admitted d && fewer (size d) best) (Some (record { design = d; bits = size d })) best

unfoldable pub best_of : Option SizedDesign → List Design → Option SizedDesign
best_of best [] = best
best_of best (d ∷ ds) = best_of (better best d) ds

unfoldable pub smallest_of : ℕ → ℕ → ℕ → Option SizedDesign
smallest_of kind w q = best_of None (designs kind w q)

-- What the call answers. "Kind, w and q are checked as before. New numbers: 24, no legal design of that kind, w and q is admitted; after 3."
unfoldable pub smallest_answer : ℕ → ℕ → ℕ → Result SizedDesign Cause
smallest_answer kind w q =
    if_passed (verdict (function_checks (limits_of kind) kind w q)) (ok_or (smallest_of kind w q) Cause.NoneAdmitted) Err

-- What is to be told
abbrev pub told_of : Option SizedDesign → Told SizedDesign
told_of None = refused (number_of Cause.NoneAdmitted) 0
told_of (Some best) = accepted best

unfoldable pub smallest_told : ℕ → ℕ → ℕ → Told SizedDesign
smallest_told kind w q =
    if_passed (verdict (function_checks (limits_of kind) kind w q)) (told_of (smallest_of kind w q)) (λ cause. refused (number_of cause) 0)
