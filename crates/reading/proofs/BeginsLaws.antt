-- What bytes begin with.
use mathlib.Core.Path.{◌≡◌, refl, sym, ap}
use mathlib.Core.Bool.{Bool, true, false, true≢false, ◌&&◌, and-false}
use mathlib.Core.List.{List, [], ◌∷◌, ◌++◌}
use Prim.Native.Nat.{ℕ, zero, suc, ◌+◌, ◌≤◌, ◌<◌}
use native.Mathlib.Numerals.{add-one}
use native.Mathlib.Omega.{arith}
use lib.Dec.{eqb}
use lib.ListN.{length, take, drop, get_or}
use lib.Seq.{take-nil}
use borrow.Author.Tests.{eqb-true, eq-eqb, ne_eqb}
use Rattle.general.proofs.Tests.{both}
use Rattle.reading.specs.ReadLine.{begins}

pub begins-append : (head rest : List ℕ) → begins (head ++ rest) head ≡ true
unfolding begins
begins-append [] rest = refl
begins-append (first ∷ head) rest = rw (eq-eqb first first refl) (begins-append head rest)

pub begins-split : (bytes head : List ℕ) → begins bytes head ≡ true → bytes ≡ head ++ drop (length head) bytes
unfolding begins
begins-split bytes [] e = refl
begins-split [] (first ∷ head) e = absurd (true≢false (sym e))
begins-split (byte ∷ bytes) (first ∷ head) e =
    let parts = both (eqb byte first) (begins bytes head) e in
    rw (← eqb-true byte first parts.0) (ap (λ (rest : List ℕ). byte ∷ rest) (begins-split bytes head parts.1))

-- Only as many bytes as the head has are looked at.
pub begins-front : (bytes head : List ℕ) (n : ℕ) → length head ≤ n → begins (take n bytes) head ≡ begins bytes head
unfolding begins
begins-front bytes [] n h = refl
begins-front [] (first ∷ head) n h = rw (take-nil {A = ℕ} n)
begins-front (byte ∷ bytes) (first ∷ head) zero h = absurd (omega arith)
begins-front (byte ∷ bytes) (first ∷ head) (suc n) h = ap (λ (b : Bool). eqb byte first && b) (begins-front bytes head n (omega arith))

-- Bytes that begin with so many that are due begin with fewer of them, too.
pub begins-fewer : (bytes due : List ℕ) (n i : ℕ) → n ≤ i → begins bytes (take i due) ≡ true → begins bytes (take n due) ≡ true
unfolding begins
begins-fewer bytes due zero i h e = refl
begins-fewer bytes [] (suc n) i h e = refl
begins-fewer bytes (first ∷ due) (suc n) zero h e = absurd (omega arith)
begins-fewer [] (first ∷ due) (suc n) (suc i) h e = absurd (true≢false (sym e))
begins-fewer (byte ∷ bytes) (first ∷ due) (suc n) (suc i) h e =
    let parts = both (eqb byte first) (begins bytes (take i due)) e in
    rw parts.0 (begins-fewer bytes due n i (omega arith) parts.1)

-- One more byte agrees.
agrees : (bytes due : List ℕ) (i : ℕ) → i < length bytes → get_or bytes i 0 ≡ get_or due i 0 → begins bytes (take i due) ≡ true
    → begins bytes (take (suc i) due) ≡ true
unfolding begins
agrees bytes [] i h same e = refl
agrees [] (first ∷ due) i h same e = absurd (omega arith)
agrees (byte ∷ bytes) (first ∷ due) zero h same e = rw (eq-eqb byte first same)
agrees (byte ∷ bytes) (first ∷ due) (suc i) h same e =
    let parts = both (eqb byte first) (begins bytes (take i due)) e in
    rw parts.0 (agrees bytes due i (omega arith) same parts.1)

pub begins-more : (bytes due : List ℕ) (i : ℕ) → i < length bytes → get_or bytes i 0 ≡ get_or due i 0 → begins bytes (take i due) ≡ true
    → begins bytes (take (i + 1) due) ≡ true
begins-more bytes due i h same e = rw add-one (agrees bytes due i h same e)

-- A byte that is not the one due settles it, whatever the others are.
pub begins-differs : (bytes due : List ℕ) (n i : ℕ) → i < n → i < length due → (get_or bytes i 0 ≡ get_or due i 0 → ⊥)
    → begins bytes (take n due) ≡ false
unfolding begins
begins-differs bytes due zero i h k other = absurd (omega arith)
begins-differs bytes [] (suc n) i h k other = absurd (omega arith)
begins-differs [] (first ∷ due) (suc n) i h k other = refl
begins-differs (byte ∷ bytes) (first ∷ due) (suc n) zero h k other = rw (ne_eqb byte first other)
begins-differs (byte ∷ bytes) (first ∷ due) (suc n) (suc i) h k other =
    rw (begins-differs bytes due n i (omega arith) (omega arith) other, and-false)
