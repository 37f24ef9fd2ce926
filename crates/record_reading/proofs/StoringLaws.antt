-- Storing bytes as entries: what is left of an entry that is cut, that bytes may come in parts, and what stands in the table then.
use mathlib.Core.Path.{◌≡◌, refl, ◌∙◌}
use mathlib.Core.Bool.{Bool, true, false, cond}
use mathlib.Core.List.{List, [], ◌∷◌, ◌++◌}
use mathlib.Core.Logic.{◌≢◌}
use Prim.Native.Nat.{ℕ, zero, suc, ◌+◌, ◌*◌, ◌/◌, ◌%◌, ◌≤◌, ◌<◌}
use native.Mathlib.Nat.{add-zero}
use native.Mathlib.Omega.{arith}
use lib.ListN.{length, drop, get_or, set, length-set}
use lib.Seq.{get_or-set_same, get_or-set_other}
use borrow.Author.Tests.{leb-true}
use Rattle.encoding.specs.Bytes.{number_in, entry_bytes}
use Rattle.records.proofs.BytesLaws.{entry_in}
use Rattle.record_reading.specs.Storing.{Home, initial_home, offset_home, stored_at, stored_from, cut_bytes}

-- Three bytes more are an entry more.
entry_more : (n : ℕ) → suc (suc (suc n)) / entry_bytes ≡ suc (n / entry_bytes)
entry_more n = omega arith

bytes-more : (k : ℕ) → entry_bytes * suc k ≡ suc (suc (suc (entry_bytes * k)))
bytes-more k = omega arith

-- The bytes of the cut entry are those behind the whole ones.
pub cut-length : (bytes : List ℕ) → length (cut_bytes bytes) ≡ length bytes % entry_bytes
unfolding cut_bytes
cut-length [] = refl
cut-length (a ∷ []) = refl
cut-length (a ∷ b ∷ []) = refl
cut-length (a ∷ b ∷ c ∷ rest) = omega (arith, cut-length rest)

pub cut-drop : (bytes : List ℕ) → cut_bytes bytes ≡ drop (entry_bytes * (length bytes / entry_bytes)) bytes
unfolding cut_bytes
cut-drop [] = refl
cut-drop (a ∷ []) = refl
cut-drop (a ∷ b ∷ []) = refl
cut-drop (a ∷ b ∷ c ∷ rest) = rw (entry_more (length rest), bytes-more (length rest / entry_bytes)) (cut-drop rest)

-- Bytes that come in two parts: the second one's begin behind those of the entry that the first one's end cuts.
pub cut-append : (bytes more : List ℕ) → cut_bytes (bytes ++ more) ≡ cut_bytes (cut_bytes bytes ++ more)
unfolding cut_bytes
cut-append [] more = refl
cut-append (a ∷ []) more = refl
cut-append (a ∷ b ∷ []) more = refl
cut-append (a ∷ b ∷ c ∷ rest) more = cut-append rest more

module _ {A : Type 0} (home : Home A) where
  pub stored-append : (e : ℕ) (bytes more : List ℕ) (table : List A)
      → stored_from home e (bytes ++ more) table
      ≡ stored_from home (e + length bytes / entry_bytes) (cut_bytes bytes ++ more) (stored_from home e bytes table)
  unfolding stored_from cut_bytes
  stored-append e [] more table = rw (add-zero e)
  stored-append e (a ∷ []) more table = rw (add-zero e)
  stored-append e (a ∷ b ∷ []) more table = rw (add-zero e)
  stored-append e (a ∷ b ∷ c ∷ rest) more table =
      let next : e + suc (suc (suc (length rest))) / entry_bytes ≡ suc e + length rest / entry_bytes = omega arith in
      rw next (stored-append (suc e) rest more (stored_at home e (number_in (a ∷ b ∷ c ∷ [])) table))

  -- One entry: the table keeps its length, has the entry at its place if it is its own, and stands everywhere else.
  module _ (e number : ℕ) (table : List A) where
    at_length : length (stored_at home e number table) ≡ length table
    unfolding stored_at
    at_length = go (home.owns e)
      where
        go : (own : Bool) → length (cond own (set table (home.place e) (home.value number)) table) ≡ length table
        go true = length-set table (home.place e) (home.value number)
        go false = refl

    at_own : (z : A) → home.owns e ≡ true → home.place e < length table
        → get_or (stored_at home e number table) (home.place e) z ≡ home.value number
    unfolding stored_at
    at_own z own h = rw own (get_or-set_same table (home.place e) (home.value number) z h)

    at_other : (i : ℕ) (z : A) → (home.owns e ≡ true → i ≢ home.place e)
        → get_or (stored_at home e number table) i z ≡ get_or table i z
    unfolding stored_at
    at_other i z other = go (home.owns e) refl
      where
        go : (own : Bool) → home.owns e ≡ own
            → get_or (cond own (set table (home.place e) (home.value number)) table) i z ≡ get_or table i z
        go true is = get_or-set_other table (home.place e) i (home.value number) z (other is)
        go false is = refl

  -- All entries: the table keeps its length,
  pub stored-length : (e : ℕ) (bytes : List ℕ) (table : List A) → length (stored_from home e bytes table) ≡ length table
  unfolding stored_from
  stored-length e [] table = refl
  stored-length e (a ∷ []) table = refl
  stored-length e (a ∷ b ∷ []) table = refl
  stored-length e (a ∷ b ∷ c ∷ rest) table =
      let number = number_in (a ∷ b ∷ c ∷ []) in
      stored-length (suc e) rest (stored_at home e number table) ∙ at_length e number table

  -- and stands at an index that is the place of none of its own among them.
  pub stored_other : (e : ℕ) (bytes : List ℕ) (table : List A) (i : ℕ) (z : A)
      → ((f : ℕ) → e ≤ f → f < e + length bytes / entry_bytes → home.owns f ≡ true → i ≢ home.place f)
      → get_or (stored_from home e bytes table) i z ≡ get_or table i z
  unfolding stored_from
  stored_other e [] table i z other = refl
  stored_other e (a ∷ []) table i z other = refl
  stored_other e (a ∷ b ∷ []) table i z other = refl
  stored_other e (a ∷ b ∷ c ∷ rest) table i z other =
      let number = number_in (a ∷ b ∷ c ∷ []) in
      stored_other (suc e) rest (stored_at home e number table) i z (λ f low high own. other f (omega arith) (omega arith) own)
      ∙ at_other e number table i z (λ own. other e (omega arith) (omega arith) own)

-- Different entries of a table have different places.
pub record Apart {A : Type 0} (home : Home A) : Type 0 where
  pub same : (e f : ℕ) → home.owns e ≡ true → home.owns f ≡ true → home.place e ≡ home.place f → e ≡ f

pub initial-apart : (initials : ℕ) → Apart (initial_home initials)
initial-apart initials = record { same = λ e f own other places. places }

pub offset-apart : (initials : ℕ) → Apart (offset_home initials)
offset-apart initials =
    record { same = λ e f own other places. omega (arith, leb-true initials e own, leb-true initials f other) }

module _ {A : Type 0} {home : Home A} (apart : Apart home) where
  -- So entry f, which is k entries behind the first, has at its place what its three bytes stand for.
  pub stored_there : (e : ℕ) (bytes : List ℕ) (table : List A) (f k : ℕ) (z : A) → f ≡ e + k → k < length bytes / entry_bytes
      → home.owns f ≡ true → home.place f < length table
      → get_or (stored_from home e bytes table) (home.place f) z ≡ home.value (number_in (entry_in bytes k))
  unfolding stored_from
  stored_there e [] table f k z is h own within = absurd (omega arith)
  stored_there e (a ∷ []) table f k z is h own within = absurd (omega arith)
  stored_there e (a ∷ b ∷ []) table f k z is h own within = absurd (omega arith)
  stored_there e (a ∷ b ∷ c ∷ rest) table f zero z is h own within =
      let number = number_in (a ∷ b ∷ c ∷ []) in
      let first : f ≡ e = omega arith in
      stored_other home (suc e) rest (stored_at home e number table) (home.place f) z
      (λ g low high other places. omega (arith, apart.same f g own other places))
      ∙ rw first (at_own home e number table z (rw first at own) (rw first at within))
  stored_there e (a ∷ b ∷ c ∷ rest) table f (suc k) z is h own within =
      let number = number_in (a ∷ b ∷ c ∷ []) in
      let kept = at_length home e number table in
      rw (bytes-more k)
      (stored_there (suc e) rest (stored_at home e number table) f k z (omega arith) (omega arith) own (omega arith))
