-- Texts that are put one after another, as a writer gives them.
use Rattle.std.specs.Prelude.{Ok, Err}
use mathlib.Core.Path.{◌≡◌, refl, sym}
use mathlib.Core.Bool.{true, true≢false}
use mathlib.Core.List.{List, [], ◌∷◌, ◌++◌}
use Prim.Native.Nat.{ℕ, ◌+◌, ◌<◌}
use native.Mathlib.Numerals.{add-one}
use lib.ListN.{length, set, take}
use lib.Seq.{take-suc-set}
use Rattle.general.specs.Below.{list_below}
use Rattle.refusal.specs.Verdict.{Verdict}
use Rattle.refusal.specs.Checks.{passes}
use Rattle.console.specs.Blocks.{Blocks}
use Rattle.console.specs.Writing.{pending_in, pending_with, Puts, printed}
use Rattle.console.proofs.PutLaws.{puts_none, puts_one, puts-more, printed-last}
use Rattle.set_console.specs.Writing.{put_if}

-- A text and a newline behind it, put from a buffer
pub text-puts : (c : Blocks) (buffer after : List ℕ) (count : ℕ) → count < length buffer
    → after ≡ pending_with c (take (count + 1) (set buffer count 10)) → Puts (length c.output) (pending_in c) (take count buffer ++ 10 ∷ []) after
text-puts c buffer after count h e =
    let text : take (count + 1) (set buffer count 10) ≡ take count buffer ++ 10 ∷ [] = rw (add-one count) (take-suc-set buffer count 10 h) in
    rw (e, text) (puts_one c (take count buffer ++ 10 ∷ []))

-- A text is given where nothing turns it down, and then it is put.
pub given-passed : (v : Verdict) → passes v ≡ true → v ≡ (Ok tt)
given-passed (Ok tt) e = refl
given-passed (Err cause) e = absurd (true≢false (sym e))

pub given-put : (v : Verdict) (text : List ℕ) (room : ℕ) (start end : List ℕ) → passes v ≡ true → Puts room start (put_if v text) end
    → Puts room start (text ++ 10 ∷ []) end
given-put v text room start end e puts = rw (given-passed v e) at puts

-- No text is put yet, and one more is.
pub puts-first : (text : ℕ → List ℕ) (room : ℕ) (start : List ℕ) → Puts room start (printed (list_below 0 text)) start
unfolding list_below printed
puts-first text room start = puts_none room start

pub puts-next : (text : ℕ → List ℕ) (room n : ℕ) (start mid end : List ℕ) → Puts room start (printed (list_below n text)) mid
    → Puts room mid (text n ++ 10 ∷ []) end → Puts room start (printed (list_below (n + 1) text)) end
unfolding list_below
puts-next text room n start mid end first rest =
    rw (add-one n, printed-last (list_below n text) (text n)) (puts-more room start mid end (printed (list_below n text)) (text n ++ 10 ∷ []) first rest)
