-- Document 01, "Bits, lines and the report": the frame 01, which holds a design.
use Rattle.std.specs.Prelude.{Bool, cond, not, ◌||◌, List, [], ◌∷◌, ◌++◌, ℕ, ◌+◌, ◌*◌, ltb, eqb, get_or}
use Rattle.refusal.specs.declared.Cause.{Cause}
use Rattle.refusal.specs.Checks.{Check, ◌↝◌}
use Rattle.design.specs.declared.Pair.{Pair}
use Rattle.design.specs.declared.Design.{Design}
use Rattle.design.specs.Cut.{no_pair}
use Rattle.design.specs.Legal.{design_checks}

-- Of a frame, given as its bytes and their number: "01: kind, w, q, g, alpha, m, then a_i, b_i (a byte each); 8 + 2m bytes by
-- its own m". Byte 0 is the frame kind, byte 6 is m, the last is the sum byte. A frame too short to hold its m fails, whatever is
-- read for byte 6: it has fewer than 8 bytes. (A count that no line can have may pass here; `decode` gives none.)
unfoldable pub frame_fails : List ℕ → ℕ → Bool
frame_fails bytes count = not (eqb (get_or bytes 0 0) 1) || not (eqb count (8 + 2 * get_or bytes 6 0))

-- Refusal 16 of a line that has to be a design's.
unfoldable pub frame_checks : List ℕ → ℕ → List Check
frame_checks bytes count = frame_fails bytes count ↝ Cause.Frame ∷ []

-- "a reader leaves zeros there on an 01 line": pairs beyond m
unfoldable pub frame_pair : List ℕ → ℕ → Pair
frame_pair bytes i =
    cond (ltb i (get_or bytes 6 0))
    (record { a = get_or bytes (7 + 2 * i) 0; b = get_or bytes (8 + 2 * i) 0 })
    no_pair

unfoldable pub frame_design : List ℕ → Design
frame_design bytes =
    record {
      kind = get_or bytes 1 0;
      w = get_or bytes 2 0;
      q = get_or bytes 3 0;
      g = get_or bytes 4 0;
      alpha = get_or bytes 5 0;
      m = get_or bytes 6 0;
      pairs = frame_pair bytes 0 ∷ frame_pair bytes 1 ∷ frame_pair bytes 2 ∷ frame_pair bytes 3 ∷ [];
    }

-- What is tried on the first frame of a set: "16, on an 01 line 1 to 9", the design being that in the frame
unfoldable pub first_checks : List ℕ → ℕ → List Check
first_checks bytes count = frame_checks bytes count ++ design_checks (frame_design bytes)
