-- A table while it is written: nothing yet, one entry more, a list of entries more, all that begin the table.
use mathlib.Core.Path.{◌≡◌, ap, sym, ◌∙◌}
use mathlib.Core.List.{List, [], ◌∷◌, ◌++◌, append_assoc, append-nil}
use Prim.Native.Nat.{ℕ, zero, suc, ◌+◌, ◌≤◌, ◌<◌}
use native.Mathlib.Nat.{add_assoc, add-zero, zero-add, not-suc-le-zero}
use native.Mathlib.Numerals.{add-one}
use native.Mathlib.Omega.{arith}
use lib.ListN.{length, get_or, take, drop, set, length-append, length-drop, take-append-drop}
use lib.Seq.{drop-drop, append_snoc, set_split, take_at, drop_at, take-suc, length-take-le}
use Rattle.general.specs.Below.{list_below}
use Rattle.general.specs.Lists.{over}
use Rattle.general.proofs.ListLaws.{list_length}

module _ {A : Type 0} where
  pub over_none : (table : List A) (n : ℕ) → table ≡ over table n []
  unfolding over
  over_none table n = rw (add-zero, append-nil) (sym (take-append-drop n table))

  pub over-start : (table entries : List A) → over table 0 entries ≡ entries ++ drop (length entries) table
  unfolding over
  over-start table entries = rw zero-add

  -- one store
  store : (table : List A) (n : ℕ) (v : A) → n < length table → set table n v ≡ over table n (v ∷ [])
  unfolding over
  store table n v h = set_split table n v h ∙ rw add-one (sym (append_snoc (take n table) v (drop (suc n) table)))

  module _ (table : List A) (n : ℕ) (entries : List A) (room : n + length entries ≤ length table) where
    front_length : length (take n table ++ entries) ≡ n + length entries
    front_length = length-append (take n table) entries ∙ rw (length-take-le n table (omega arith))

    pub over-length : length (over table n entries) ≡ length table
    unfolding over
    over-length =
        let rest = drop (n + length entries) table in
        omega (arith, front_length, length-append (take n table ++ entries) rest, length-drop (n + length entries) table)

    pub over-more : (more : List A) → over (over table n entries) (n + length entries) more ≡ over table n (entries ++ more)
    unfolding over
    over-more more =
        let front = take n table ++ entries in
        let rest = drop (n + length entries) table in
        rw (
          take_at front rest (n + length entries) front_length,
          ← drop-drop (length more) (n + length entries) (front ++ rest),
          drop_at front rest (n + length entries) front_length,
          drop-drop (length more) (n + length entries) table,
          length-append entries more,
          add_assoc n (length entries) (length more),
          append_assoc (take n table) entries more,
        )

    pub over-one : (v : A) → n + length entries < length table
        → set (over table n entries) (n + length entries) v ≡ over table n (entries ++ (v ∷ []))
    over-one v h = store (over table n entries) (n + length entries) v (rw over-length h) ∙ over-more (v ∷ [])

  -- one entry more in front of those that are written
  module _ (x : A) (xs entries : List A) where
    first-before : (v : A) → set (over (x ∷ xs) 1 entries) 0 v ≡ over (x ∷ xs) 0 (v ∷ entries)
    unfolding over
    first-before v = let e : 0 + suc (length entries) ≡ 1 + length entries = omega arith in rw e

    over-later : (n : ℕ) → over (x ∷ xs) (suc n) entries ≡ x ∷ over xs n entries
    unfolding over
    over-later n = let e : suc n + length entries ≡ suc (n + length entries) = omega arith in rw e

  pub over-before : (table : List A) (n : ℕ) (entries : List A) (v : A) → n < length table
      → set (over table (suc n) entries) n v ≡ over table n (v ∷ entries)
  over-before [] n entries v h = absurd (not-suc-le-zero h)
  over-before (x ∷ xs) zero entries v h = first-before x xs entries v
  over-before (x ∷ xs) (suc n) entries v h =
      rw (over-later x xs entries (suc n), over-later x xs (v ∷ entries) n) (ap (◌∷◌ x) (over-before xs n entries v (omega arith)))

  -- The first n of the entries are written from a place on, and then one more is.
  pub over-next-from : (table entries : List A) (place n : ℕ) (z : A) → n < length entries → place + length entries ≤ length table
      → set (over table place (take n entries)) (place + n) (get_or entries n z) ≡ over table place (take (n + 1) entries)
  over-next-from table entries place n z h room =
      let e = length-take-le n entries (omega arith) in
      let one = over-one table place (take n entries) (omega arith) (get_or entries n z) (omega arith) in
      rw (add-one, take-suc entries n z h) (rw e at one)

  pub over-next : (table entries : List A) (n : ℕ) (z : A) → n < length entries → length entries ≤ length table
      → set (over table 0 (take n entries)) n (get_or entries n z) ≡ over table 0 (take (n + 1) entries)
  over-next table entries n z h room = rw zero-add at (over-next-from table entries 0 n z h (omega arith))

-- The list of f over the numbers below n, written from a place on: not yet, and one entry more
module _ {A : Type 0} (f : ℕ → A) (table : List A) (start : ℕ) where
  pub run_none : table ≡ over table start (list_below 0 f)
  unfolding list_below
  run_none = over_none table start

  module _ (n : ℕ) where
    run_room : start + n ≤ length table → start + length (list_below n f) ≤ length table
    run_room h = rw (list_length f n) h

    pub run-one : (at : ℕ) (v : A) {now : List A} → now ≡ over table start (list_below n f) → at ≡ start + n → v ≡ f n → at < length table
        → set now at v ≡ over table start (list_below (n + 1) f)
    unfolding list_below
    run-one at v now-is at-is v-is h =
        let last : start + length (list_below n f) < length table = rw (list_length f n) (omega arith) in
        rw (now-is, at-is, v-is, add-one)
        (rw (list_length f n) at (over-one table start (list_below n f) (run_room (omega arith)) (f n) last))

-- Entries before what the table held: the table keeps its length.
pub kept-length : {A : Type 0} (entries before : List A) → length entries ≤ length before
    → length (entries ++ drop (length entries) before) ≡ length before
kept-length entries before room = simp (length-append, length-drop) (omega arith)
