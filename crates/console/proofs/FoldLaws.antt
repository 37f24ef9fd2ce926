-- A line that is folded a byte at a time.
use Rattle.std.specs.Prelude.{Some, None}
use Rattle.std.specs.List.{FoldsTo}
use Rattle.std.proofs.lemmas.Fn.{FoldsTo-push}
use mathlib.Core.Path.{◌≡◌, refl, sym}
use mathlib.Core.Bool.{Bool, true, false, true≢false}
use mathlib.Core.List.{List, [], ◌∷◌, ◌++◌, append-nil}
use Prim.Native.Nat.{ℕ, ◌<◌}
use native.Mathlib.Nat.{not-suc-le-zero}
use native.Mathlib.Numerals.{add-one}
use native.Mathlib.Omega.{arith}
use lib.ListN.{length, length-append, get_or-append}
use lib.Seq.{get_or-append_seam}
use Rattle.general.proofs.Sums.{below_suc}
use Rattle.console.specs.Blocks.{Blocks}
use Rattle.console.specs.declared.line.LineEnd.{LineEnd}
use Rattle.console.specs.Reading.{Takes, NoNewline, NextRead}
use Rattle.console.specs.Folding.{LineFolded}
use Rattle.console.proofs.TakeLaws.{takes_none, takes-more, takes-byte, takes-end, end_kept}

-- A byte more, which is no newline
one-more-byte : (line : List ℕ) (b : ℕ) → NoNewline line (length line) → (b ≡ 10 → ⊥) → NoNewline (line ++ b ∷ []) (length (line ++ b ∷ []))
one-more-byte line b none other i h =
    below_suc (rw (length-append line (b ∷ []), add-one (length line)) at h)
    (λ at. rw (at, get_or-append_seam line b [] 0) other)
    (λ before. rw (get_or-append line (b ∷ []) 0 i before) (none i before))

module _ {T : Type 0} (step : T → ℕ → T → Type 0) (c : Blocks) (start : T) where
  -- The line so far
  pub record Folding (text : T) (begun : Bool) (here : Blocks) : Type 0 where
    pub line : List ℕ
    pub taken : Takes c line here
    pub no-newline : NoNewline line (length line)
    pub some : begun ≡ true → 0 < length line
    pub folds : FoldsTo step start line text

  pub folding-none : Folding start false c
  folding-none =
      record { line = []; taken = takes_none c; no-newline = λ i h. absurd (not-suc-le-zero h); some = λ e. absurd (true≢false (sym e)); folds = refl }

  module _ (text : T) (begun : Bool) (here next : Blocks) (f : Folding text begun here) where
    -- One byte more, which is no newline
    pub folding-more : (b : ℕ) (u : T) → NextRead here (Some b) next → (b ≡ 10 → ⊥) → step text b u → Folding u true next
    folding-more b u read other stepped =
        record {
          line = f.line ++ b ∷ [];
          taken = takes-more c here next f.line (b ∷ []) f.taken (takes-byte _ _ _ read b refl);
          no-newline = one-more-byte f.line b f.no-newline other;
          some = λ e. omega (arith, length-append f.line (b ∷ []));
          folds = FoldsTo-push step start f.line text b u f.folds stepped;
        }

    -- The newline behind it
    pub folded-newline : NextRead here (Some 10) next → LineFolded step c start text next
    folded-newline read =
        record {
          line = f.line;
          end = LineEnd.Newline;
          taken = takes-more c here next f.line (10 ∷ []) f.taken (takes-byte _ _ _ read 10 refl);
          no-newline = f.no-newline;
          whole = λ e. let z : ◌≡◌ {A = ℕ} 0 1 = cc in omega arith;
          over = λ e. let z : ◌≡◌ {A = ℕ} 0 1 = cc in absurd (omega arith);
          some = λ e. let z : ◌≡◌ {A = ℕ} 0 1 = cc in absurd (omega arith);
          folds = f.folds;
        }

    -- The end of the input behind it
    pub folded-end : NextRead here None next → begun ≡ true → LineFolded step c start text next
    folded-end read e =
        record {
          line = f.line;
          end = LineEnd.Input;
          taken = rw (append-nil f.line) at (takes-more c here next f.line [] f.taken (takes-end _ _ _ read refl));
          no-newline = f.no-newline;
          whole = λ e. let z : ◌≡◌ {A = ℕ} 0 1 = cc in omega arith;
          over = λ same. end_kept _ _ _ read refl;
          some = λ same. f.some e;
          folds = f.folds;
        }
