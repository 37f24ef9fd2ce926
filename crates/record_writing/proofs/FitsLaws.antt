-- Which entries have a byte in a record, and whether all of them fit.
use Rattle.std.specs.Prelude.{Some, None}
use mathlib.Core.Path.{◌≡◌, refl, sym}
use mathlib.Core.Bool.{Bool, true, false, cond, not, ◌&&◌, true≢false}
use mathlib.Core.List.{List}
use Prim.Native.Nat.{ℕ, suc, ◌+◌, ◌*◌, ◌/◌, ◌≤◌, ◌<◌}
use native.Mathlib.Omega.{arith}
use borrow.Author.Tests.{lt-ltb, ltb-true, not-true}
use lib.IntN.{ℤ}
use Rattle.general.proofs.Sums.{below_suc, none_below, none_of, some_of}
use Rattle.general.proofs.Tests.{both}
use Rattle.encoding.specs.Bytes.{entry_bytes}
use Rattle.records.specs.IntelHex.{data_bytes, bytes_before}
use Rattle.records.specs.SetBytes.{entry_at, entry_fits}
use Rattle.record_writing.specs.Inputs.{entry_written}
use Rattle.record_writing.specs.WriteRecord.{has_byte_in, record_fits}

-- An entry is written as its number where it fits, and else not at all.
module _ (initials : ℕ) (initial : List ℕ) (offsets : List ℤ) (e : ℕ) where
  either : (fits : Bool) {number : ℕ} → cond fits (Some (entry_at initials initial offsets e)) None ≡ Some number
      → (fits ≡ true) × (number ≡ entry_at initials initial offsets e)
  either true w = (refl, cc)
  either false w = let z : ◌≡◌ {A = ℕ} 0 1 = cc in absurd (omega arith)

  pub written : {number : ℕ} → entry_written initials initial offsets e ≡ Some number
      → (entry_fits initials initial offsets e ≡ true) × (number ≡ entry_at initials initial offsets e)
  unfolding entry_written
  written w = either (entry_fits initials initial offsets e) w

  neither : (fits : Bool) → cond fits (Some (entry_at initials initial offsets e)) None ≡ None → fits ≡ false
  neither true w = let z : ◌≡◌ {A = ℕ} 0 1 = cc in absurd (omega arith)
  neither false w = refl

  pub unwritten : entry_written initials initial offsets e ≡ None → entry_fits initials initial offsets e ≡ false
  unfolding entry_written
  unwritten w = neither (entry_fits initials initial offsets e) w

-- The entries from the first up to e fit.
abbrev pub FitTo : ℕ → List ℕ → List ℤ → ℕ → ℕ → Type 0
FitTo initials initial offsets first e = (k : ℕ) → first ≤ k → k < e → entry_fits initials initial offsets k ≡ true

-- One more fits.
pub fit-more : (initials : ℕ) (initial : List ℕ) (offsets : List ℤ) (first e : ℕ) → FitTo initials initial offsets first e
    → entry_fits initials initial offsets e ≡ true → FitTo initials initial offsets first (e + 1)
fit-more initials initial offsets first e fit here k low high =
    let below : k < suc e = omega arith in
    below_suc below (λ at. rw at here) (λ less. fit k low less)

-- The entry that the record's first byte is of, and one past the entry that its last byte is of
module _ (entries n : ℕ) where
  abbrev pub first_in : ℕ
  first_in = bytes_before (entry_bytes * entries) n / entry_bytes

  abbrev pub past_in : ℕ
  past_in = (bytes_before (entry_bytes * entries) (n + 1) + 2) / entry_bytes

  -- The entries from the one up to the other have a byte in the record,
  pub in-record : (e : ℕ) → first_in ≤ e → e < past_in → has_byte_in n e ≡ true
  unfolding has_byte_in bytes_before
  in-record e low high =
      rw (
        lt-ltb (data_bytes * n) (entry_bytes * (e + 1)) (omega arith),
        lt-ltb (entry_bytes * e) (data_bytes * (n + 1)) (omega arith),
      )

  pub past-small : past_in ≤ entries
  unfolding bytes_before
  past-small = omega arith

  pub first_small : first_in ≤ past_in
  unfolding bytes_before
  first_small = omega arith

  -- and no others do.
  record Between (e : ℕ) : Type 0 where
    low : first_in ≤ e
    high : e < past_in

  between : (e : ℕ) → e < entries → has_byte_in n e ≡ true → Between e
  unfolding has_byte_in bytes_before
  between e h has =
      let parts = both _ _ has in
      let starts : data_bytes * n < entry_bytes * (e + 1) = ltb-true _ _ parts.0 in
      let ends : entry_bytes * e < data_bytes * (n + 1) = ltb-true _ _ parts.1 in
      record { low = omega arith; high = omega arith }

  module _ (initials : ℕ) (initial : List ℕ) (offsets : List ℤ) where
    -- An entry turns the record down.
    abbrev unfit : ℕ → Bool
    unfit k = has_byte_in n k && not (entry_fits initials initial offsets k)

    -- One of them does not fit, and the record does not;
    pub one-unfit : (e : ℕ) → first_in ≤ e → e < past_in → entry_fits initials initial offsets e ≡ false
        → record_fits entries initials initial offsets n ≡ false
    unfolding record_fits
    one-unfit e low high wide =
        rw (some_of entries unfit e (omega (arith, past-small)) (rw (in-record e low high, wide)))

    -- all fit, and the record does,
    untested : (has fits : Bool) → (has ≡ true → fits ≡ true) → has && not fits ≡ false
    untested true fits h = rw (h refl)
    untested false fits h = refl

    pub all_fit : FitTo initials initial offsets first_in past_in → record_fits entries initials initial offsets n ≡ true
    unfolding record_fits
    all_fit fit =
        rw (none_of entries unfit (λ e h. untested _ _ (λ has. let b = between e h has in fit e b.low b.high)))

    -- and the other way round.
    fits-tested : (has fits : Bool) → has ≡ true → has && not fits ≡ false → fits ≡ true
    fits-tested true true e f = refl
    fits-tested true false e f = absurd (true≢false f)
    fits-tested false fits e f = absurd (true≢false (sym e))

    pub fit-each : record_fits entries initials initial offsets n ≡ true → FitTo initials initial offsets first_in past_in
    unfolding record_fits
    fit-each fits e low high =
        fits-tested _ _ (in-record e low high) (none_below entries unfit (not-true _ fits) e (omega (arith, past-small)))
