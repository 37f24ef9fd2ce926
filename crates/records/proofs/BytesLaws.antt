-- The bytes of numbers, 3 each, and the bytes that records hold: how many there are, and what stands where.
use mathlib.Core.Path.{◌≡◌, refl, sym, ap, ap₂, ◌∙◌}
use mathlib.Core.List.{List, ◌++◌}
use mathlib.Core.Logic.{⊎_elim}
use Prim.Native.Nat.{ℕ, zero, suc, ◌+◌, ◌-◌, ◌*◌, ◌/◌, ◌%◌, ◌^◌, ◌≤◌, ◌<◌, min}
use native.Mathlib.Nat.{le_refl, le_step, le_of_suc-le-suc, eq-or-lt_of_le, not-suc-le-zero}
use native.Mathlib.Omega.{arith}
use native.Mathlib.Decide.{dec_lt, dec_le}
use lib.ListN.{length, take, drop, get_or, length-append, length-take, length-drop, take-append-drop}
use lib.Seq.{take_all, drop_at, take-append-le, drop-append-le, take-add, get_or-take, get_or-drop}
use lib.IntN.{ℤ}
use Rattle.general.proofs.Sums.{below_suc}
use Rattle.design.specs.declared.Design.{Design}
use Rattle.encoding.specs.Bytes.{big_endian, number_in, entry_bytes}
use Rattle.encoding.proofs.HexBack.{Bytes, bytes-append, bytes-parts}
use Rattle.encoding.proofs.NumberBack.{big-endian-length, big-endian-bytes, number_lt, number-again}
use Rattle.encoding.proofs.LineBack.{line-length}
use Rattle.records.specs.IntelHex.{
  data_bytes,
  data_count,
  bytes_before,
  length_at,
  head_of,
  record_head,
  record_text,
  data_in,
  record_of,
}
use Rattle.records.specs.SetBytes.{byte_count, bytes_below, set_bytes}
use Rattle.records.proofs.CountLaws.{data_head, end-head}

-- Byte i of a number's m bytes has the eight bits above those of the m - 1 - i bytes behind it.
pub big-endian-at : (m i v : ℕ) → i < m → get_or (big_endian m v) i 0 ≡ v / 2 ^ (8 * (m - 1 - i)) % 256
unfolding big_endian
big-endian-at zero i v h = absurd (not-suc-le-zero h)
big-endian-at (suc m) zero v h = let all : suc m - 1 - 0 ≡ m = omega arith in rw all
big-endian-at (suc m) (suc i) v h = let fewer : suc m - 1 - suc i ≡ m - 1 - i = omega arith in rw fewer (big-endian-at m i v (omega arith))

-- Parts of bytes are bytes.
pub part_bytes : (bytes : List ℕ) → Bytes bytes → (from size : ℕ) → Bytes (take size (drop from bytes))
part_bytes bytes small from size =
    let behind = (bytes-parts (take from bytes) (drop from bytes) (rw take-append-drop small)).1 in
    (bytes-parts (take size (drop from bytes)) (drop size (drop from bytes)) (rw take-append-drop behind)).0

-- The three bytes of entry k
abbrev pub entry_in : List ℕ → ℕ → List ℕ
entry_in bytes k = take entry_bytes (drop (entry_bytes * k) bytes)

-- They are what the number that they hold is written as, and it fits three bytes.
module _ (bytes : List ℕ) (small : Bytes bytes) (k : ℕ) (h : entry_bytes * k + entry_bytes ≤ length bytes) where
  entry_length : length (entry_in bytes k) ≡ entry_bytes
  entry_length = rw (length-take, length-drop) (omega arith)

  pub entry_lt : number_in (entry_in bytes k) < 2 ^ (8 * entry_bytes)
  entry_lt = rw entry_length at (number_lt (entry_in bytes k) (part_bytes bytes small (entry_bytes * k) entry_bytes))

  entry-again : big_endian entry_bytes (number_in (entry_in bytes k)) ≡ entry_in bytes k
  entry-again = rw entry_length at (number-again (entry_in bytes k) (part_bytes bytes small (entry_bytes * k) entry_bytes))

module _ (number : ℕ → ℕ) where
  -- n numbers have 3n bytes.
  pub below_length : (n : ℕ) → length (bytes_below n number) ≡ entry_bytes * n
  unfolding bytes_below
  below_length zero = refl
  below_length (suc n) =
      let last = big_endian entry_bytes (number n) in
      omega (arith, length-append (bytes_below n number) last, below_length n, big-endian-length entry_bytes (number n))

  pub below-bytes : (n : ℕ) → Bytes (bytes_below n number)
  unfolding bytes_below
  below-bytes zero = tt
  below-bytes (suc n) =
      bytes-append (bytes_below n number) (big_endian entry_bytes (number n)) (below-bytes n) (big-endian-bytes entry_bytes (number n))

  -- The first 3k of them are those of the first k numbers,
  pub below-first : (n k : ℕ) → k ≤ n → take (entry_bytes * k) (bytes_below n number) ≡ bytes_below k number
  unfolding bytes_below
  below-first zero k h = let none : k ≡ 0 = omega arith in rw none
  below-first (suc n) k h =
      let last = big_endian entry_bytes (number n) in
      let before = below_length n in
      ⊎_elim (λ (all : k ≡ suc n). rw all (take_all (entry_bytes * suc n) (bytes_below (suc n) number) (omega (arith, below_length (suc n)))))
      (λ fewer. take-append-le (entry_bytes * k) (bytes_below n number) last (omega arith) ∙ below-first n k (le_of_suc-le-suc fewer))
      (eq-or-lt_of_le h)

  -- and the three behind these are those of number k.
  pub below-entry : (n k : ℕ) → k < n → entry_in (bytes_below n number) k ≡ big_endian entry_bytes (number k)
  unfolding bytes_below
  below-entry zero k h = absurd (not-suc-le-zero h)
  below-entry (suc n) k h =
      let last = big_endian entry_bytes (number n) in
      let count = big-endian-length entry_bytes (number n) in
      let before = below_length n in
      below_suc h
      (λ at. rw (at, drop_at (bytes_below n number) last (entry_bytes * n) before) (take_all entry_bytes last (omega arith)))
      (λ under.
      rw (
        drop-append-le (entry_bytes * k) (bytes_below n number) last (omega arith),
        take-append-le entry_bytes (drop (entry_bytes * k) (bytes_below n number)) last (rw length-drop (omega arith)),
      ) (below-entry n k under))

  -- Byte p is byte p % 3 of number p / 3.
  pub below-byte : (n p : ℕ) → p < entry_bytes * n
      → get_or (bytes_below n number) p 0 ≡ number (p / entry_bytes) / 2 ^ (8 * (entry_bytes - 1 - p % entry_bytes)) % 256
  below-byte n p h =
      let k = p / entry_bytes in
      let i = p % entry_bytes in
      let behind = drop (entry_bytes * k) (bytes_below n number) in
      let place : p ≡ entry_bytes * k + i = omega arith in
      ap (λ q. get_or (bytes_below n number) q 0) place
      ∙ sym (get_or-drop (entry_bytes * k) (bytes_below n number) i 0)
      ∙ sym (get_or-take entry_bytes behind i 0 (omega arith))
      ∙ ap (λ (l : List ℕ). get_or l i 0) (below-entry n k (omega arith))
      ∙ big-endian-at entry_bytes i (number k) (omega arith)

  -- Only the numbers below n matter.
  pub below-congruence : (other : ℕ → ℕ) (n : ℕ) → ((k : ℕ) → k < n → number k ≡ other k) → bytes_below n number ≡ bytes_below n other
  unfolding bytes_below
  below-congruence other zero same = refl
  below-congruence other (suc n) same =
      ap₂ (λ (l : List ℕ) (v : ℕ). l ++ big_endian entry_bytes v) (below-congruence other n (λ k h. same k (le_step h)))
      (same n (le_refl _))

-- Bytes are those of the numbers that each three of them hold.
pub below_again : (bytes : List ℕ) → Bytes bytes → (n : ℕ) → entry_bytes * n ≤ length bytes
    → bytes_below n (λ k. number_in (entry_in bytes k)) ≡ take (entry_bytes * n) bytes
unfolding bytes_below
below_again bytes small zero h = refl
below_again bytes small (suc n) h =
    let more : entry_bytes * suc n ≡ entry_bytes * n + entry_bytes = omega arith in
    rw (more, take-add (entry_bytes * n) entry_bytes bytes)
    (ap₂ (λ (l m : List ℕ). l ++ m) (below_again bytes small n (omega arith)) (entry-again bytes small n (omega arith)))

-- A set has so many bytes.
pub set-length : (d : Design) (initial : List ℕ) (offsets : List ℤ) → length (set_bytes d initial offsets) ≡ byte_count d
unfolding set_bytes byte_count
set-length d initial offsets = below_length _ _

pub set-bytes : (d : Design) (initial : List ℕ) (offsets : List ℤ) → Bytes (set_bytes d initial offsets)
unfolding set_bytes
set-bytes d initial offsets = below-bytes _ _

-- Past its end a list has nothing to take.
take_min : {A : Type 0} (n : ℕ) (l : List A) → take (min n (length l)) l ≡ take n l
take_min n l =
    elim (dec_le n (length l)) [
      | yes within ↦ let least : min n (length l) ≡ n = omega arith in rw least
      | no past ↦
          let least : min n (length l) ≡ length l = omega arith in
          rw least (take_all (length l) l (le_refl _) ∙ sym (take_all n l (omega arith)))
    ]

module _ (bytes : List ℕ) (n : ℕ) where
  -- Record n holds as many bytes as its length says, the ones from 16n on,
  pub data-length : length (data_in bytes n) ≡ length_at (length bytes) n
  unfolding data_in length_at bytes_before
  data-length = rw (length-take, length-drop) (omega arith)

  pub data-at : (i : ℕ) → i < data_bytes → get_or (data_in bytes n) i 0 ≡ get_or bytes (data_bytes * n + i) 0
  unfolding data_in
  data-at i h = rw (get_or-take, get_or-drop)

  -- and they follow those of the records before it.
  pub data-next : take (bytes_before (length bytes) (n + 1)) bytes ≡ take (bytes_before (length bytes) n) bytes ++ data_in bytes n
  unfolding bytes_before data_in
  data-next =
      let more : data_bytes * (n + 1) ≡ data_bytes * n + data_bytes = omega arith in
      rw (take_min (data_bytes * (n + 1)) bytes, take_min (data_bytes * n) bytes, more) (take-add (data_bytes * n) data_bytes bytes)

-- A record has 4 bytes before its data,
head-four : (size address type : ℕ) → length (head_of size address type) ≡ 4
unfolding head_of big_endian
head-four size address type = refl

pub head-length : (total n : ℕ) → length (record_head total n) ≡ 4
head-length total n =
    elim (dec_lt n (data_count total)) [
      | yes within ↦ rw (data_head total n within) (head-four _ _ _)
      | no last ↦ rw (end-head total n (omega arith)) (head-four _ _ _)
    ]

-- and as text two digits for each byte, those of the sum byte, and the colon.
pub record-length : (bytes : List ℕ) (n : ℕ) → length (record_of bytes n) ≡ 11 + 2 * length_at (length bytes) n
unfolding record_of record_text
record-length bytes n =
    let head = record_head (length bytes) n in
    omega (
      arith,
      line-length (head ++ data_in bytes n),
      length-append head (data_in bytes n),
      head-length (length bytes) n,
      data-length bytes n,
    )
