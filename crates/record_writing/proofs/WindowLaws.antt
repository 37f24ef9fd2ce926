-- The window of a record while its entries are put into it, and the record's bytes in it.
use mathlib.Core.Path.{◌≡◌, refl, ◌∙◌}
use mathlib.Core.List.{List, [], ◌∷◌, ◌++◌, append_assoc}
use borrow.Rule.Slice.PartMut.{put_mid}
use Prim.Native.Nat.{ℕ, zero, suc, ◌+◌, ◌-◌, ◌*◌, ◌%◌, ◌≤◌, ◌<◌}
use native.Mathlib.Nat.{le_refl}
use native.Mathlib.Omega.{arith}
use native.Mathlib.Decide.{dec_lt}
use lib.ListN.{length, take, drop, length-take, length-drop, length-append}
use lib.Seq.{take-nil, take_all, take-take, take-add, drop-drop, take_at, drop_at, take-append-le, drop-append-le, length-take-le}
use Rattle.general.specs.Lists.{over}
use Rattle.general.proofs.WritingLaws.{over_none, over-start, over-length, over-more}
use Rattle.encoding.specs.Bytes.{big_endian, entry_bytes}
use Rattle.encoding.proofs.NumberBack.{big-endian-length}
use Rattle.records.specs.IntelHex.{data_bytes, bytes_before, length_at, record_head, data_in}
use Rattle.records.specs.SetBytes.{bytes_below}
use Rattle.records.proofs.CountLaws.{length-small, before-next, data-start, some-data}
use Rattle.records.proofs.BytesLaws.{below_length, below-entry, data-length, head-length}
use Rattle.record_writing.specs.Inputs.{window_bytes, Windowed}
use Rattle.record_writing.proofs.FitsLaws.{first_in, past_in, first_small, past-small}

-- A part of the window that is copied over is written over it.
pub put-over : (window : List ℕ) (at k : ℕ) (bytes : List ℕ) → length bytes ≡ k → put_mid at k window bytes ≡ over window at bytes
unfolding over
put-over window at k bytes e = rw (e, drop-drop, append_assoc, ← e)

-- A part of a list is that part of a front of it that is long enough.
part-take : (k size m : ℕ) (l : List ℕ) → k + size ≤ m → take size (drop k (take m l)) ≡ take size (drop k l)
part-take zero size m l h = take-take size m l (omega arith)
part-take (suc k) size m [] h = rw (take-nil {A = ℕ} m)
part-take (suc k) size zero (x ∷ l) h = absurd (omega arith)
part-take (suc k) size (suc m) (x ∷ l) h = part-take k size m l (omega arith)

-- What is written over a table from a place on stands there.
drop-over : (table entries : List ℕ) (from k size : ℕ) → from ≤ length table → k + size ≤ length entries
    → take size (drop (from + k) (over table from entries)) ≡ take size (drop k entries)
unfolding over
drop-over table entries from k size h enough =
    let front = take from table in
    let rest = drop (from + length entries) table in
    let place : length front ≡ from = length-take-le from table h in
    let left : size ≤ length (drop k entries) = omega (arith, length-drop k entries) in
    rw (
      ← drop-drop k from ((front ++ entries) ++ rest),
      drop-append-le from (front ++ entries) rest (omega (arith, length-append front entries)),
      drop_at front entries from place,
      drop-append-le k entries rest (omega arith),
      take-append-le size (drop k entries) rest left,
    )

-- The bytes of so many entries from the first on
module _ (number : ℕ → ℕ) (entries first : ℕ) where
  abbrev pub entries_from : ℕ → List ℕ
  entries_from count = take (entry_bytes * count) (drop (entry_bytes * first) (bytes_below entries number))

  from-length : (count : ℕ) → first + count ≤ entries → length (entries_from count) ≡ entry_bytes * count
  from-length count h = rw (length-take, length-drop, below_length number entries) (omega arith)

  -- One entry more is the bytes of its number more.
  from_more : (count : ℕ) → first + count < entries
      → entries_from (count + 1) ≡ entries_from count ++ big_endian entry_bytes (number (first + count))
  from_more count h =
      let all = bytes_below entries number in
      let more : entry_bytes * (count + 1) ≡ entry_bytes * count + entry_bytes = omega arith in
      let place : entry_bytes * first + entry_bytes * count ≡ entry_bytes * (first + count) = omega arith in
      rw (
        more,
        take-add (entry_bytes * count) entry_bytes (drop (entry_bytes * first) all),
        drop-drop (entry_bytes * count) (entry_bytes * first) all,
        place,
        below-entry number entries (first + count) h,
      )

  -- A window while the entries up to e are put into it from a place on, one behind the other
  pub record Putting (before window : List ℕ) (from e : ℕ) : Type 0 where
    pub long : length window ≡ window_bytes
    pub low : first ≤ e
    pub so_far : window ≡ over before from (entries_from (e - first))

  -- None yet,
  pub putting-none : (window : List ℕ) (from : ℕ) → length window ≡ window_bytes → Putting window window from first
  putting-none window from long =
      let none : first - first ≡ 0 = omega arith in
      record { long = long; low = le_refl _; so_far = rw none (over_none window from) }

  -- and one more, at its place.
  pub putting-more : {before window : List ℕ} {from e : ℕ} → Putting before window from e → e < entries
      → length before ≡ window_bytes → (at : ℕ) → at ≡ from + entry_bytes * (e - first) → at + entry_bytes ≤ window_bytes
      → Putting before (over window at (big_endian entry_bytes (number e))) from (e + 1)
  putting-more {before} {window} {from} {e} part within long at place room =
      let count = e - first in
      let next : e + 1 - first ≡ count + 1 = omega (arith, part.low) in
      let here : first + count ≡ e = omega (arith, part.low) in
      let size : length (entries_from count) ≡ entry_bytes * count = from-length count (omega arith) in
      let there : at ≡ from + length (entries_from count) = omega arith in
      let fits : from + length (entries_from count) ≤ length before = omega arith in
      let added = over-more before from (entries_from count) fits (big_endian entry_bytes (number e)) in
      let whole : over window at (big_endian entry_bytes (number e)) ≡ over before from (entries_from (e + 1 - first)) =
      rw (next, from_more count (omega arith), here, there, part.so_far) added in
      let three = big-endian-length entry_bytes (number e) in
      record {
        long = over-length window at (big_endian entry_bytes (number e)) (omega arith) ∙ part.long;
        low = omega (arith, part.low);
        so_far = whole;
      }

-- There is room for the entries that have a byte in a record.
pub entries-few : (entries n : ℕ) → past_in entries n ≤ first_in entries n + 6
unfolding bytes_before
entries-few entries n = omega arith

-- The record's bytes stand behind the place of its head.
module _ (number : ℕ → ℕ) (entries n : ℕ) where
  abbrev total : ℕ
  total = entry_bytes * entries

  abbrev pub held_back : ℕ
  held_back = bytes_before total n % entry_bytes

  from_start : take (length_at total n) (drop (bytes_before total n) (bytes_below entries number)) ≡ data_in (bytes_below entries number) n
  unfolding data_in
  from_start =
      let all = bytes_below entries number in
      let size = length_at total n in
      let whole : take size (data_in all n) ≡ data_in all n =
      take_all size (data_in all n) (omega (arith, rw (below_length number entries) at (data-length all n))) in
      elim (dec_lt 0 size) [
        | yes some ↦
            rw (data-start total n (some-data total n some), ← take-take size data_bytes (drop (data_bytes * n) all) (length-small total n))
            whole
        | no none ↦ let nothing : size ≡ 0 = omega arith in rw nothing (rw nothing at whole)
      ]

  pub put-window : {before window : List ℕ} → length before ≡ window_bytes
      → Putting number entries (first_in entries n) before window (4 - held_back) (past_in entries n)
      → Windowed entries number n window
  put-window {before} {window} long part =
      let first = first_in entries n in
      let count = past_in entries n - first in
      let size = length_at total n in
      let all = bytes_below entries number in
      let back : 4 - held_back + held_back ≡ 4 = omega arith in
      let start : entry_bytes * first + held_back ≡ bytes_before total n = omega arith in
      let enough : held_back + size ≤ entry_bytes * count = omega (arith, before-next total n, first_small entries n) in
      let within : first + count ≤ entries = omega (arith, first_small entries n, past-small entries n) in
      let held = from-length number entries first count within in
      let behind = drop-over before (entries_from number entries first count) (4 - held_back) held_back size (omega arith) (omega arith) in
      rw part.so_far (rw back at behind)
      ∙ part-take held_back size (entry_bytes * count) (drop (entry_bytes * first) all) enough
      ∙ rw (drop-drop held_back (entry_bytes * first) all, start) from_start

  -- With the head over its start, the window begins with the whole record.
  pub window-record : (window : List ℕ) → Windowed entries number n window
      → take (4 + length_at total n) (over window 0 (record_head total n)) ≡ record_head total n ++ data_in (bytes_below entries number) n
  window-record window put =
      let head = record_head total n in
      let rest = drop (length head) window in
      let four = head-length total n in
      rw (over-start window head, take-add 4 (length_at total n) (head ++ rest), take_at head rest 4 four, drop_at head rest 4 four, four)
      (rw put refl)
