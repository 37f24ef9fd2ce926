-- Document 02, A2: "such an entry is stored when its third byte comes". What entries do to a table, from the bytes of records.
use Rattle.std.specs.Prelude.{Bool, cond, List, [], ◌∷◌, ℕ, suc, ◌-◌, leb, ltb, set, ℤ}
use Rattle.encoding.specs.Bytes.{number_in, entry_bytes, from_complement}

-- A table of a set: which of the set's entries are its own, the place of each, and what the number in an entry's bytes stands for
pub record Home (A : Type 0) : Type 0 where
  pub owns : ℕ → Bool
  pub place : ℕ → ℕ
  pub value : ℕ → A

-- "initial entries first": the first `initials` of the entries are initial entries, and the offsets follow them. "Offsets are in two's
-- complement".
abbrev pub initial_home : ℕ → Home ℕ
initial_home initials = record { owns = λ e. ltb e initials; place = λ e. e; value = λ number. number }

abbrev pub offset_home : ℕ → Home ℤ
offset_home initials = record { owns = λ e. leb initials e; place = λ e. e - initials; value = from_complement entry_bytes }

-- A table after entry e
unfoldable pub stored_at : {A : Type 0} → Home A → ℕ → ℕ → List A → List A
stored_at home e number table = cond (home.owns e) (set table (home.place e) (home.value number)) table

-- A table after bytes from the start of entry e on: each three are an entry,
unfoldable pub stored_from : {A : Type 0} → Home A → ℕ → List ℕ → List A → List A
stored_from home e [] table = table
stored_from home e (a ∷ []) table = table
stored_from home e (a ∷ b ∷ []) table = table
stored_from home e (a ∷ b ∷ c ∷ rest) table =
    stored_from home (suc e) rest (stored_at home e (number_in (a ∷ b ∷ c ∷ [])) table)

-- and what is left are the bytes of an entry that is cut.
unfoldable pub cut_bytes : List ℕ → List ℕ
cut_bytes [] = []
cut_bytes (a ∷ []) = a ∷ []
cut_bytes (a ∷ b ∷ []) = a ∷ b ∷ []
cut_bytes (a ∷ b ∷ c ∷ rest) = cut_bytes rest
