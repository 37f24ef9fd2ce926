-- One line more: the design's, or a record.
use Rattle.std.specs.Prelude.{Result, Ok, Err, Option, Some}
use mathlib.Core.Path.{◌≡◌, refl, sym, ap, ◌∙◌}
use mathlib.Core.Bool.{Bool, true, false}
use mathlib.Core.List.{List, [], ◌∷◌}
use Prim.Native.Nat.{ℕ}
use native.Mathlib.Omega.{arith}
use lib.IntN.{ℤ}
use Rattle.refusal.specs.declared.Cause.{Cause}
use Rattle.refusal.specs.Verdict.{Verdict}
use Rattle.design.specs.declared.Design.{Design}
use Rattle.refusal.specs.Checks.{answer}
use Rattle.refusal.proofs.Answers.{answer-refused, answer-given}
use Rattle.frames.specs.Hex.{bytes_of}
use Rattle.frames.specs.DesignFrame.{frame_design}
use Rattle.frames.specs.DesignText.{design_line, design_line_verdict}
use Rattle.frames.proofs.DesignLaws.{line-design}
use Rattle.record_reading.specs.declared.HexReading.{HexReading}
use Rattle.record_reading.specs.declared.HexRead.{HexRead}
use Rattle.record_reading.specs.ReadRecord.{hex_finished, HexSession, hex_session, hex_verdict_on, holding, hex_after, hex_answer}
use Rattle.record_storage.specs.Loading.{hex_feed}
use Rattle.record_storage.proofs.Feeding.{refused-stands}
use Rattle.set_console.specs.declared.Came.{Came}
use Rattle.set_console.specs.Reading.{came_of}
use Rattle.hex_console.specs.Loaded.{DesignCame, HexStepped}

-- The design on a line that passes
pub design-came : (line : List ℕ) (d : Design) → design_line line ≡ Ok d → DesignCame d
design-came line d e =
    let told = line-design line d e in
    record { line = line; passed = told.0; held = told.1; legal = told.2 }

-- What a line comes to, whether it is refused
module _ (line : List ℕ) where
  abbrev told : Result (Option Design) Cause
  told = answer (design_line_verdict line) (Some (frame_design (bytes_of line)))

  pub design-refused : (cause : Cause) → design_line line ≡ Err cause → Err cause ≡ told
  unfolding design_line
  design-refused cause e = rw (answer-refused (design_line_verdict line) _ e) refl

  pub design-held : (d : Design) → design_line line ≡ Ok d → Ok (Some d) ≡ told
  unfolding design_line
  design-held d e =
      let given = answer-given (design_line_verdict line) _ e in
      rw (given.0, given.1) refl

-- No record came: the reading stands, and there is no more to take.
pub none-taken : (d : Design) (s : HexSession) → HexStepped d s s (Ok Came.Nothing)
unfolding hex_feed
none-taken d s =
    record {
      texts = [];
      fed = refl;
      moves = λ e. let z : ◌≡◌ {A = ℕ} 0 1 = cc in absurd (omega arith);
      unfinished = λ e. let z : ◌≡◌ {A = ℕ} 0 1 = cc in absurd (omega arith);
      finished = λ e. let z : ◌≡◌ {A = ℕ} 0 1 = cc in absurd (omega arith);
      nothing = λ e. refl;
      refused = λ cause e. refl;
    }

-- One was refused: so it is, too.
pub none-accepted : (d : Design) (s : HexSession) (cause : Cause) → HexStepped d s s (Err cause)
unfolding hex_feed
none-accepted d s cause =
    record {
      texts = [];
      fed = refl;
      moves = λ e. let z : ◌≡◌ {A = ℕ} 0 1 = cc in absurd (omega arith);
      unfinished = λ e. let z : ◌≡◌ {A = ℕ} 0 1 = cc in absurd (omega arith);
      finished = λ e. let z : ◌≡◌ {A = ℕ} 0 1 = cc in absurd (omega arith);
      nothing = λ e. refl;
      refused = λ other e. refl;
    }

-- Whether more is due after a record that was accepted
still-due : (finished : Bool) → came_of finished ≡ Came.Line → finished ≡ false
still-due true e = let z : ◌≡◌ {A = ℕ} 0 1 = cc in absurd (omega arith)
still-due false e = refl

no_more : (finished : Bool) → came_of finished ≡ Came.Set → finished ≡ true
no_more true e = refl
no_more false e = let z : ◌≡◌ {A = ℕ} 0 1 = cc in absurd (omega arith)

some-came : (finished : Bool) → came_of finished ≡ Came.Nothing → ⊥
some-came true e = let z : ◌≡◌ {A = ℕ} 0 1 = cc in omega arith
some-came false e = let z : ◌≡◌ {A = ℕ} 0 1 = cc in omega arith

-- A record came, and the reader's answer and tables are these.
module _ (d : Design) (state : HexReading) (initial initial' : List ℕ) (offsets offsets' : List ℤ) (text : List ℕ) (read : HexRead) where
  abbrev s : HexSession
  s = hex_session state initial offsets

  module _ (answer : read ≡ hex_answer d s text) (initial-is : initial' ≡ (hex_after d s text).initial)
      (offsets-is : offsets' ≡ (hex_after d s text).offsets) where
    hex-verdict-told : {v : Verdict} → read.verdict ≡ v → hex_verdict_on d s text ≡ v
    unfolding hex_answer
    hex-verdict-told e = sym (ap (λ (r : HexRead). r.verdict) answer) ∙ e

    hex-state-told : read.state ≡ (hex_after d s text).state
    unfolding hex_answer
    hex-state-told = ap (λ (r : HexRead). r.state) answer

    -- It was refused: the reading stands,
    pub record-refused : (cause : Cause) → read.verdict ≡ Err cause
        → HexStepped d s (hex_session state initial' offsets') (Err cause)
    record-refused cause e = rw (initial-is, offsets-is, refused-stands d s text cause (hex-verdict-told e)) (none-accepted d s cause)

    -- or taken: the reading moves on.
    pub record-taken : read.verdict ≡ (Ok tt)
        → HexStepped d s (hex_session read.state initial' offsets') (Ok (came_of (hex_finished d read.state)))
    unfolding hex_feed hex_after holding
    record-taken e =
        record {
          texts = text ∷ [];
          fed = rw (initial-is, offsets-is, hex-state-told);
          moves = λ more. rw (hex-state-told, hex-verdict-told e);
          unfinished = λ more. still-due (hex_finished d read.state) (cc);
          finished = λ done. no_more (hex_finished d read.state) (cc);
          nothing = λ none. absurd (some-came (hex_finished d read.state) (cc));
          refused = λ cause none. let z : ◌≡◌ {A = ℕ} 0 1 = cc in absurd (omega arith);
        }
