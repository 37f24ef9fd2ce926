-- Designs and their 14 numbers are each other's inverse: a state that one call stored is the state that the next call reads, and a
-- refused line leaves the numbers as they came.
use mathlib.Core.Path.{◌≡◌, sym, ap}
use mathlib.Core.List.{List, [], ◌∷◌}
use Prim.Native.Nat.{ℕ, zero, suc, ◌+◌, ◌<◌}
use native.Mathlib.Omega.{arith}
use lib.ListN.{length, get_or, drop}
use lib.Seq.{drop-cons, drop-length}
use Rattle.design.specs.declared.Pair.{Pair}
use Rattle.design.specs.declared.Design.{Design}
use Rattle.design.specs.Limits.{most_tables}
use Rattle.design.specs.Cut.{no_pair}
use Rattle.exports.specs.Numbers.{design_of, numbers_of}

-- The n entries of a list from place i on, read one by one
abbrev entries_from : {A : Type 0} → A → List A → ℕ → ℕ → List A
entries_from other list i zero = []
entries_from other list i (suc n) = get_or list i other ∷ entries_from other list (suc i) n

entries-read : {A : Type 0} (other : A) (list : List A) (i n : ℕ) → i + n ≡ length list → entries_from other list i n ≡ drop i list
entries-read other list i zero e =
    let whole : i ≡ length list = omega arith in
    sym (rw whole (drop-length list))
entries-read other list i (suc n) e =
    let more : i < length list = omega arith in
    rw (drop-cons list i other) (ap (λ (rest : _). get_or list i other ∷ rest) (entries-read other list (suc i) n (omega arith)))

pub design-back : (d : Design) → length d.pairs ≡ most_tables → design_of (numbers_of d) ≡ d
unfolding design_of numbers_of
design-back d four =
    ap (λ (pairs : List Pair). record { kind = d.kind; w = d.w; q = d.q; g = d.g; alpha = d.alpha; m = d.m; pairs = pairs })
    (entries-read no_pair d.pairs 0 most_tables (sym four))

pub numbers-back : (numbers : List ℕ) → length numbers ≡ 14 → numbers_of (design_of numbers) ≡ numbers
unfolding design_of numbers_of
numbers-back numbers fourteen = entries-read 0 numbers 0 14 (sym fourteen)
