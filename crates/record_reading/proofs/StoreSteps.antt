-- Storing entry by entry: storing what is left from here comes to what storing all from the start comes to.
use mathlib.Core.Path.{◌≡◌, refl}
use mathlib.Core.Bool.{Bool, true, false, cond}
use mathlib.Core.List.{List, [], ◌∷◌, ◌++◌}
use Prim.Native.Nat.{ℕ, suc, ◌+◌, ◌*◌, ◌≤◌, ◌<◌}
use native.Mathlib.Omega.{arith}
use lib.ListN.{length, set, length-set}
use Rattle.encoding.specs.Bytes.{number_in, entry_bytes}
use Rattle.records.specs.declared.Extent.{Extent}
use Rattle.records.specs.Inputs.{EntryIn}
use Rattle.record_reading.specs.Storing.{Home, stored_at, stored_from}
use Rattle.record_reading.specs.Inputs.{StoreInput}

module _ {A : Type 0} (home : Home A) where
  -- An entry keeps its table's length.
  stored-length : (e number : ℕ) (table : List A) → length (stored_at home e number table) ≡ length table
  unfolding stored_at
  stored-length e number table = go (home.owns e)
    where
      go : (own : Bool) → length (cond own (set table (home.place e) (home.value number)) table) ≡ length table
      go true = length-set table (home.place e) (home.value number)
      go false = refl

  -- Three bytes are an entry,
  first-stored : (e : ℕ) (bytes rest : List ℕ) (table : List A) → length bytes ≡ entry_bytes
      → stored_from home e (bytes ++ rest) table ≡ stored_from home (suc e) rest (stored_at home e (number_in bytes) table)
  unfolding stored_from
  first-stored e [] rest table h = absurd (omega arith)
  first-stored e (a ∷ []) rest table h = absurd (omega arith)
  first-stored e (a ∷ b ∷ []) rest table h = absurd (omega arith)
  first-stored e (a ∷ b ∷ c ∷ []) rest table h = refl
  first-stored e (a ∷ b ∷ c ∷ d ∷ more) rest table h = absurd (omega arith)

  -- and fewer are none.
  none-stored : (e : ℕ) (bytes : List ℕ) (table : List A) → length bytes < entry_bytes → stored_from home e bytes table ≡ table
  unfolding stored_from
  none-stored e [] table h = refl
  none-stored e (a ∷ []) table h = refl
  none-stored e (a ∷ b ∷ []) table h = refl
  none-stored e (a ∷ b ∷ c ∷ rest) table h = absurd (omega arith)

-- A loop over the entries in a stream has stored i of them, from e on, in a table that was `start`; these bytes are left.
pub record Storing {A : Type 0} (home : Home A) (e : ℕ) (stream rest : List ℕ) (start table : List A) (i : ℕ) : Type 0 where
  pub left : stored_from home (e + i) rest table ≡ stored_from home e stream start
  pub kept : length table ≡ length start

module _ {A : Type 0} (home : Home A) (e : ℕ) (stream : List ℕ) (start : List A) where
  pub storing-start : {rest : List ℕ} → rest ≡ stream → Storing home e stream rest start start 0
  storing-start rest_is =
      let here : e + 0 ≡ e = omega arith in
      record { left = rw (here, rest_is); kept = refl }

  module _ {rest table : _} {i : ℕ} (before : Storing home e stream rest start table i) where
    -- One entry more
    pub storing-next : (number : ℕ) (bytes later : List ℕ) (after : List A) → rest ≡ bytes ++ later → length bytes ≡ entry_bytes
        → number ≡ number_in bytes → after ≡ stored_at home (e + i) number table → Storing home e stream later start after (i + 1)
    storing-next number bytes later after rest_is three number_is after_is =
        let next : e + (i + 1) ≡ suc (e + i) = omega arith in
        record {
          left = rw (after_is, number_is, next, ← first-stored home (e + i) bytes later table three, ← rest_is) before.left;
          kept = rw (after_is, stored-length home) before.kept;
        }

    -- All are stored.
    pub storing-end : length rest < entry_bytes → table ≡ stored_from home e stream start
    storing-end few = rw (none-stored home (e + i) rest table few) at before.left

-- The entries of which bytes are stored lie within the tables, which keep their lengths.
pub entry-in : {extent : Extent} {initial₀ offsets₀ e size initial offsets : ℕ} (i left : ℕ) → StoreInput extent initial₀ offsets₀ e size
    → initial ≡ initial₀ → offsets ≡ offsets₀ → size ≡ entry_bytes * i + left → entry_bytes ≤ left
    → EntryIn extent.initials initial offsets (e + i)
entry-in i left input initial-kept offsets-kept size_is more =
    record { in-initial = λ h. omega arith; in-offsets = λ h. omega arith }
