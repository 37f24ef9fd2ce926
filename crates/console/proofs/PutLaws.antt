-- Texts that are put one after another.
use mathlib.Core.Path.{◌≡◌, refl, sym, ap, ◌∙◌}
use mathlib.Core.Bool.{Bool, true, false, cond}
use mathlib.Core.List.{List, [], ◌∷◌, ◌++◌, append_assoc, append-nil}
use Prim.Native.Nat.{ℕ, ◌+◌, ◌≤◌}
use native.Mathlib.Omega.{arith}
use lib.Dec.{leb}
use lib.ListN.{length, take, length-append}
use lib.Seq.{length-take-le}
use borrow.Author.Tests.{leb-true, leb-false}
use Rattle.console.specs.Blocks.{Blocks}
use Rattle.console.specs.Writing.{pending_in, pending_with, Puts, printed}

pub puts_none : (room : ℕ) (here : List ℕ) → Puts room here [] here
puts_none room here = record { gone = []; whole = append-nil here; kept = λ h. refl }

-- The length of a block stays.
pub puts-in : {room other : ℕ} {a t b : List ℕ} → room ≡ other → Puts room a t b → Puts other a t b
puts-in e puts = record { gone = puts.gone; whole = puts.whole; kept = λ h. puts.kept (omega (arith, e, h)) }

-- One text: it stands behind what is pending, pushes that out, or goes out by itself.
module _ (c : Blocks) (text : List ℕ) where
  abbrev before : List ℕ
  before = pending_in c

  -- Where there is room for both, but not by the number, nothing was pending.
  none-pending : leb (c.pending + length text) (length c.output) ≡ false → length before + length text ≤ length c.output → before ≡ []
  none-pending e h = go (leb c.pending (length c.output)) refl h
    where
      go : (within : Bool) → leb c.pending (length c.output) ≡ within
          → length (cond within (take c.pending c.output) []) + length text ≤ length c.output → before ≡ []
      go true is room =
          let long = length-take-le c.pending c.output (leb-true c.pending (length c.output) is) in
          absurd (omega (arith, leb-false (c.pending + length text) (length c.output) e, long))
      go false is room = rw is

  pub puts_one : Puts (length c.output) before text (pending_with c text)
  unfolding pending_with
  puts_one = go (leb (c.pending + length text) (length c.output)) refl (leb (length text) (length c.output)) refl
    where
      go : (both : Bool) → leb (c.pending + length text) (length c.output) ≡ both → (alone : Bool) → leb (length text) (length c.output) ≡ alone
          → Puts (length c.output) before text (cond both (before ++ text) (cond alone text []))
      go true e alone f = record { gone = []; whole = refl; kept = λ h. refl }
      go false e true f = record { gone = before; whole = refl; kept = none-pending e }
      go false e false f =
          record {
            gone = before ++ text;
            whole = sym (append-nil (before ++ text));
            kept = λ h. absurd (omega (arith, leb-false (length text) (length c.output) f));
          }

-- One text behind another
pub puts-more : (room : ℕ) (a b c t u : List ℕ) → Puts room a t b → Puts room b u c → Puts room a (t ++ u) c
puts-more room a b c t u first rest =
    record {
      gone = first.gone ++ rest.gone;
      whole =
          sym (append_assoc a t u)
          ∙ ap (λ (l : List ℕ). l ++ u) first.whole
          ∙ append_assoc first.gone b u
          ∙ ap (◌++◌ first.gone) rest.whole
          ∙ sym (append_assoc first.gone rest.gone c);
      kept = λ h.
          let none = first.kept (omega (arith, h, length-append t u)) in
          let here : length a + length t ≡ length b =
          omega (arith, length-append a t, ap length first.whole, length-append first.gone b, ap length none) in
          rw (none, rest.kept (omega (arith, h, here, length-append t u)));
    }

-- One line more
pub printed-last : (lines : List (List ℕ)) (line : List ℕ) → printed (lines ++ line ∷ []) ≡ printed lines ++ (line ++ 10 ∷ [])
unfolding printed
printed-last [] line = refl
printed-last (first ∷ lines) line =
    ap (λ (rest : List ℕ). first ++ 10 ∷ rest) (printed-last lines line)
    ∙ sym (append_assoc first (10 ∷ printed lines) (line ++ 10 ∷ []))
