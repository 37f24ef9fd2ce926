-- The bytes of a whole set: storing them and writing the entries then gives the bytes again, and storing what entries are written as gives
-- the entries back. So many of the entries are initial entries, and the tables are long enough.
use mathlib.Core.Path.{◌≡◌, sym, ap, ◌∙◌}
use mathlib.Core.Bool.{true}
use mathlib.Core.List.{List}
use Prim.Native.Nat.{ℕ, ◌+◌, ◌-◌, ◌*◌, ◌^◌, ◌≤◌, ◌<◌}
use native.Mathlib.Omega.{arith}
use native.Mathlib.Decide.{dec_lt}
use lib.ListN.{length, take, drop, get_or, length-drop}
use lib.Seq.{ext_get_or, take_all, length-take-le, get_or-take, get_or-drop}
use lib.IntN.{ℤ, pos}
use borrow.Author.Tests.{ltb-true, leb-true, lt-ltb, le-ltb, le-leb}
use Rattle.encoding.specs.Bytes.{number_in, entry_bytes, from_complement, fits, fits_signed, complement}
use Rattle.encoding.proofs.HexBack.{Bytes}
use Rattle.encoding.proofs.NumberBack.{number-back}
use Rattle.encoding.proofs.ComplementBack.{complement-lt, complement-back, complement-fits, complement-again}
use Rattle.records.specs.SetBytes.{entry_at, entry_fits, bytes_below}
use Rattle.records.proofs.BytesLaws.{entry_in, entry_lt, below_length, below-entry, below_again, below-congruence}
use Rattle.record_reading.specs.Storing.{initial_home, offset_home, stored_from}
use Rattle.record_reading.proofs.StoringLaws.{initial-apart, offset-apart, stored-length, stored_other, stored_there}

-- The two tables after bytes from the first entry on
abbrev pub initial_after : ℕ → List ℕ → List ℕ → List ℕ
initial_after initials bytes initial = stored_from (initial_home initials) 0 bytes initial

abbrev pub offsets_after : ℕ → List ℕ → List ℤ → List ℤ
offsets_after initials bytes offsets = stored_from (offset_home initials) 0 bytes offsets

-- Lists that agree below n begin with the same n, and lists that agree from n on end alike.
module _ {A : Type 0} (z : A) (n : ℕ) (l m : List A) where
  take_same : n ≤ length l → n ≤ length m → ((i : ℕ) → i < n → get_or l i z ≡ get_or m i z) → take n l ≡ take n m
  take_same long other same =
      let size = length-take-le n l long in
      ext_get_or z (take n l) (take n m) (size ∙ sym (length-take-le n m other))
      (λ i h. let under : i < n = omega arith in get_or-take n l i z under ∙ same i under ∙ sym (get_or-take n m i z under))

  drop-same : length l ≡ length m → ((i : ℕ) → n ≤ i → get_or l i z ≡ get_or m i z) → drop n l ≡ drop n m
  drop-same size same =
      ext_get_or z (drop n l) (drop n m) (rw (length-drop, length-drop, size))
      (λ i h. get_or-drop n l i z ∙ same (n + i) (omega arith) ∙ sym (get_or-drop n m i z))

module _ (initials entries : ℕ) (bytes : List ℕ) (size : length bytes ≡ entry_bytes * entries) (initial : List ℕ) (offsets : List ℤ) where
  -- Each entry stands at its place.
  initial-there : initials ≤ length initial → (e : ℕ) → e < entries → e < initials
      → get_or (initial_after initials bytes initial) e 0 ≡ number_in (entry_in bytes e)
  initial-there long e h own =
      stored_there (initial-apart initials) 0 bytes initial e e 0 (omega arith) (omega arith) (lt-ltb e initials own) (omega arith)

  offset-there : entries ≤ initials + length offsets → (e : ℕ) → e < entries → initials ≤ e
      → get_or (offsets_after initials bytes offsets) (e - initials) (pos 0) ≡ from_complement entry_bytes (number_in (entry_in bytes e))
  offset-there long e h own =
      stored_there (offset-apart initials) 0 bytes offsets e e (pos 0) (omega arith) (omega arith) (le-leb initials e own) (omega arith)

  -- What lies beyond the entries stands.
  pub initial-beyond : drop initials (initial_after initials bytes initial) ≡ drop initials initial
  initial-beyond =
      let home = initial_home initials in
      drop-same 0 initials (initial_after initials bytes initial) initial (stored-length home 0 bytes initial)
      (λ i beyond. stored_other home 0 bytes initial i 0 (λ f low high own at. omega (arith, ltb-true f initials own)))

  pub offset-beyond : drop (entries - initials) (offsets_after initials bytes offsets) ≡ drop (entries - initials) offsets
  offset-beyond =
      let home = offset_home initials in
      drop-same (pos 0) (entries - initials) (offsets_after initials bytes offsets) offsets (stored-length home 0 bytes offsets)
      (λ i beyond. stored_other home 0 bytes offsets i (pos 0) (λ f low high own at. omega (arith, leb-true initials f own)))

-- What an entry is written as, and when it fits, by the table that it lies in
module _ (initials : ℕ) (initial : List ℕ) (offsets : List ℤ) (e : ℕ) where
  pub initial-at : e < initials → entry_at initials initial offsets e ≡ get_or initial e 0
  unfolding entry_at
  initial-at own = rw (lt-ltb e initials own)

  pub offset-at : initials ≤ e → entry_at initials initial offsets e ≡ complement entry_bytes (get_or offsets (e - initials) (pos 0))
  unfolding entry_at
  offset-at own = rw (le-ltb e initials own)

  initial-fits : e < initials → entry_fits initials initial offsets e ≡ fits entry_bytes (get_or initial e 0)
  unfolding entry_fits
  initial-fits own = rw (lt-ltb e initials own)

  offset-fits : initials ≤ e → entry_fits initials initial offsets e ≡ fits_signed entry_bytes (get_or offsets (e - initials) (pos 0))
  unfolding entry_fits
  offset-fits own = rw (le-ltb e initials own)

  -- An entry that fits is written as a number that fits.
  number_fits : entry_fits initials initial offsets e ≡ true → entry_at initials initial offsets e < 2 ^ (8 * entry_bytes)
  unfolding fits
  number_fits fit =
      elim (dec_lt e initials) [
        | yes own ↦ rw (initial-at own) (ltb-true _ _ (sym (initial-fits own) ∙ fit))
        | no other ↦
            let own : initials ≤ e = omega arith in
            rw (offset-at own) (complement-lt entry_bytes _ (omega arith) (sym (offset-fits own) ∙ fit))
      ]

-- Bytes that are stored are what the entries are written as then, and the entries fit.
module _ (initials entries : ℕ) (bytes : List ℕ) (size : length bytes ≡ entry_bytes * entries) (small : Bytes bytes)
    (initial : List ℕ) (offsets : List ℤ) (initial-long : initials ≤ length initial) (offsets-long : entries ≤ initials + length offsets)
  where
    module _ (e : ℕ) (h : e < entries) where
      held-lt : number_in (entry_in bytes e) < 2 ^ (8 * entry_bytes)
      held-lt = entry_lt bytes small e (omega arith)

      number-stored : entry_at initials (initial_after initials bytes initial) (offsets_after initials bytes offsets) e
          ≡ number_in (entry_in bytes e)
      number-stored =
          elim (dec_lt e initials) [
            | yes own ↦ initial-at initials _ _ e own ∙ initial-there initials entries bytes size initial offsets initial-long e h own
            | no other ↦
                let own : initials ≤ e = omega arith in
                offset-at initials _ _ e own
                ∙ ap (complement entry_bytes) (offset-there initials entries bytes size initial offsets offsets-long e h own)
                ∙ complement-again entry_bytes (number_in (entry_in bytes e)) (omega arith) held-lt
          ]

      pub stored-fits : entry_fits initials (initial_after initials bytes initial) (offsets_after initials bytes offsets) e ≡ true
      unfolding fits
      stored-fits =
          elim (dec_lt e initials) [
            | yes own ↦
                initial-fits initials _ _ e own
                ∙ ap (fits entry_bytes) (initial-there initials entries bytes size initial offsets initial-long e h own)
                ∙ lt-ltb _ _ held-lt
            | no other ↦
                let own : initials ≤ e = omega arith in
                offset-fits initials _ _ e own
                ∙ ap (fits_signed entry_bytes) (offset-there initials entries bytes size initial offsets offsets-long e h own)
                ∙ complement-fits entry_bytes (number_in (entry_in bytes e)) (omega arith) held-lt
          ]

    pub stored-again : bytes_below entries
        (entry_at initials (initial_after initials bytes initial) (offsets_after initials bytes offsets)) ≡ bytes
    stored-again =
        below-congruence _ (λ e. number_in (entry_in bytes e)) entries number-stored
        ∙ below_again bytes small entries (omega arith)
        ∙ take_all (entry_bytes * entries) bytes (omega arith)

-- Entries that fit are got back from what they are written as.
module _ (initials entries : ℕ) (a : List ℕ) (b : List ℤ) (fit : (e : ℕ) → e < entries → entry_fits initials a b e ≡ true)
    (initial : List ℕ) (offsets : List ℤ) (initial-long : initials ≤ length initial) (offsets-long : entries ≤ initials + length offsets)
  where
    number-held : (e : ℕ) → e < entries → number_in (entry_in (bytes_below entries (entry_at initials a b)) e) ≡ entry_at initials a b e
    number-held e h =
        ap number_in (below-entry (entry_at initials a b) entries e h)
        ∙ number-back entry_bytes (entry_at initials a b e) (number_fits initials a b e (fit e h))

    initial-read : (e : ℕ) → e < initials → e < entries
        → get_or (initial_after initials (bytes_below entries (entry_at initials a b)) initial) e 0 ≡ get_or a e 0
    initial-read e own h =
        let bytes = bytes_below entries (entry_at initials a b) in
        let size = below_length (entry_at initials a b) entries in
        initial-there initials entries bytes size initial offsets initial-long e h own ∙ number-held e h ∙ initial-at initials a b e own

    pub initial-back : initials ≤ entries → initials ≤ length a
        → take initials (initial_after initials (bytes_below entries (entry_at initials a b)) initial) ≡ take initials a
    initial-back all long =
        let bytes = bytes_below entries (entry_at initials a b) in
        let kept = stored-length (initial_home initials) 0 bytes initial in
        take_same 0 initials (initial_after initials bytes initial) a (omega arith) long (λ e own. initial-read e own (omega arith))

    offset_read : (e : ℕ) → initials ≤ e → e < entries
        → get_or (offsets_after initials (bytes_below entries (entry_at initials a b)) offsets) (e - initials) (pos 0)
        ≡ get_or b (e - initials) (pos 0)
    offset_read e own h =
        let bytes = bytes_below entries (entry_at initials a b) in
        let size = below_length (entry_at initials a b) entries in
        let z = get_or b (e - initials) (pos 0) in
        offset-there initials entries bytes size initial offsets offsets-long e h own
        ∙ ap (from_complement entry_bytes) (number-held e h ∙ offset-at initials a b e own)
        ∙ complement-back entry_bytes z (omega arith) (sym (offset-fits initials a b e own) ∙ fit e h)

    pub offset-back : entries ≤ initials + length b
        → take (entries - initials) (offsets_after initials (bytes_below entries (entry_at initials a b)) offsets)
        ≡ take (entries - initials) b
    offset-back long =
        let bytes = bytes_below entries (entry_at initials a b) in
        let kept = stored-length (offset_home initials) 0 bytes offsets in
        let place : (i : ℕ) → initials + i - initials ≡ i = λ i. omega arith in
        take_same (pos 0) (entries - initials) (offsets_after initials bytes offsets) b (omega arith) (omega arith)
        (λ i h. rw (place i) at (offset_read (initials + i) (omega arith) (omega arith)))
