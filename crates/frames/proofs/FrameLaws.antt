-- Zeros behind a frame change nothing: past its end a frame reads as zero anyway. What passes for the first frame of a set.
use Rattle.std.specs.Prelude.{Ok}
use mathlib.Core.Path.{◌≡◌, refl}
use mathlib.Core.Bool.{false}
use mathlib.Core.List.{List, [], ◌∷◌, ◌++◌}
use Prim.Native.Nat.{ℕ, zero, suc, ◌-◌}
use lib.ListN.{length, get_or, replicate}
use Rattle.refusal.specs.Checks.{verdict}
use Rattle.refusal.proofs.Checks.{verdict-append, passed-append, none-fails}
use Rattle.design.specs.Legal.{design_checks, design_verdict, Legal}
use Rattle.frames.specs.Line.{capacity, padded}
use Rattle.frames.specs.DesignFrame.{frame_fails, frame_checks, frame_pair, frame_design, first_checks}

zeros : (n i : ℕ) → ◌≡◌ {A = ℕ} (get_or (replicate n 0) i 0) 0
zeros zero i = refl
zeros (suc n) zero = refl
zeros (suc n) (suc i) = zeros n i

zeros-behind : (bs : List ℕ) (n i : ℕ) → get_or (bs ++ replicate n 0) i 0 ≡ get_or bs i 0
zeros-behind [] n i = zeros n i
zeros-behind (b ∷ bs) n zero = refl
zeros-behind (b ∷ bs) n (suc i) = zeros-behind bs n i

module _ (bs : List ℕ) where
  pub get_d-padded : (i : ℕ) → get_or (padded bs) i 0 ≡ get_or bs i 0
  unfolding padded
  get_d-padded i = zeros-behind bs (capacity - length bs) i

  pub frame_fails-padded : (n : ℕ) → frame_fails (padded bs) n ≡ frame_fails bs n
  unfolding frame_fails
  frame_fails-padded n = simp get_d-padded

  pub frame_checks-padded : (n : ℕ) → frame_checks (padded bs) n ≡ frame_checks bs n
  unfolding frame_checks
  frame_checks-padded n = rw (frame_fails-padded n)

  frame_pair-padded : (i : ℕ) → frame_pair (padded bs) i ≡ frame_pair bs i
  unfolding frame_pair
  frame_pair-padded i = simp get_d-padded

  pub frame_design-padded : frame_design (padded bs) ≡ frame_design bs
  unfolding frame_design
  frame_design-padded = simp (get_d-padded, frame_pair-padded)

  pub first_checks-padded : (n : ℕ) → first_checks (padded bs) n ≡ first_checks bs n
  unfolding first_checks
  first_checks-padded n = rw (frame_checks-padded n, frame_design-padded)

-- A frame that passes for the first of a set is the one due, and holds a legal design.
module _ (bytes : List ℕ) (count : ℕ) where
  pub record FirstFrame : Type 0 where
    pub due : frame_fails bytes count ≡ false
    pub legal : Legal (frame_design bytes)

  pub first_frame : verdict (first_checks bytes count) ≡ (Ok tt) → FirstFrame
  unfolding first_checks frame_checks design_verdict
  first_frame e =
      let parts = passed-append (frame_checks bytes count) (design_checks (frame_design bytes)) e in
      record { due = (none-fails (frame_checks bytes count) parts.0).0; legal = parts.1 }

  pub first-frame-passes : FirstFrame → verdict (first_checks bytes count) ≡ (Ok tt)
  unfolding first_checks frame_checks design_verdict
  first-frame-passes f = rw (verdict-append, f.due, f.legal)
