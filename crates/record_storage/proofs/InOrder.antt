-- The records of a set are those of the document's list, in its order.
use mathlib.Core.Path.{◌≡◌, refl, sym, ap, ap₂, ◌∙◌}
use mathlib.Core.List.{List, [], ◌∷◌, ◌++◌, append-nil, append_assoc}
use Prim.Native.Nat.{ℕ, zero, suc, ◌+◌, ◌-◌, ◌*◌, ◌≤◌, ◌<◌}
use native.Mathlib.Nat.{add-zero, add-suc, zero-add, le_refl}
use native.Mathlib.Numerals.{add-one}
use native.Mathlib.Omega.{arith}
use lib.ListN.{length, get_or, take, drop, length-drop, drop_of_length-le}
use lib.Seq.{drop-drop}
use lib.IntN.{pos}
use Rattle.general.specs.Lists.{total}
use Rattle.general.specs.Below.{list_below}
use Rattle.general.proofs.ListLaws.{list-add, list-congruence}
use Rattle.design.specs.declared.Design.{Design}
use Rattle.design.specs.Stored.{initial_count, offset_total}
use Rattle.encoding.specs.Bytes.{big_endian, entry_bytes, complement}
use Rattle.encoding.specs.Encode.{digit_of, hex_of, sum_byte, with_sum, line_of}
use Rattle.records.specs.IntelHex.{
  data_bytes,
  data_count,
  record_count,
  head_of,
  record_text,
  data_in,
  record_of,
  records_of,
}
use Rattle.records.specs.SetBytes.{entry_count, entry_at, bytes_below, set_bytes, set_records}
use Rattle.records.proofs.CountLaws.{data_head, end-head}
use Rattle.records.proofs.BytesLaws.{below-congruence, data-length}
use Rattle.record_reading.proofs.WholeSets.{initial-at, offset-at}
use Rattle.storage.specs.Sets.{TableSet}
use Rattle.record_storage.specs.RecordFile.{joined, file_bytes, data_records, end_record, record_file}
use Rattle.record_storage.specs.RecordStorage.{records_in}

-- The bytes of numbers are those of each, one behind the other,
joined-last : (lists : List (List ℕ)) (last : List ℕ) → joined (lists ++ (last ∷ [])) ≡ joined lists ++ last
unfolding joined
joined-last [] last = append-nil last
joined-last (first ∷ lists) last = ap (λ (l : List ℕ). first ++ l) (joined-last lists last) ∙ sym (append_assoc first (joined lists) last)

joined-below : (n : ℕ) (number : ℕ → ℕ) → joined (list_below n (λ k. big_endian entry_bytes (number k))) ≡ bytes_below n number
unfolding joined list_below bytes_below
joined-below zero number = refl
joined-below (suc n) number =
    joined-last (list_below n (λ k. big_endian entry_bytes (number k))) (big_endian entry_bytes (number n))
    ∙ ap (λ (l : List ℕ). l ++ big_endian entry_bytes (number n)) (joined-below n number)

-- and the bytes of n + k numbers are those of the first n and those of the others.
below-add : (number : ℕ → ℕ) (n k : ℕ) → bytes_below (n + k) number ≡ bytes_below n number ++ bytes_below k (λ j. number (n + j))
unfolding bytes_below
below-add number n zero = rw (add-zero, append-nil)
below-add number n (suc k) =
    rw (add-suc, below-add number n k)
    (append_assoc (bytes_below n number) (bytes_below k (λ j. number (n + j))) (big_endian entry_bytes (number (n + k))))

-- The bytes of a set are those of the document's list.
module _ (t : TableSet) where
  abbrev d : Design
  d = t.design

  abbrev number : ℕ → ℕ
  number = entry_at (initial_count d) t.initial t.offsets

  initials-are : bytes_below (initial_count d) number
      ≡ joined (list_below (initial_count d) (λ index. big_endian entry_bytes (get_or t.initial index 0)))
  initials-are =
      below-congruence number (λ index. get_or t.initial index 0) (initial_count d)
      (λ index h. initial-at (initial_count d) t.initial t.offsets index h)
      ∙ sym (joined-below (initial_count d) (λ index. get_or t.initial index 0))

  abbrev offset : ℕ → ℕ
  offset place = complement entry_bytes (get_or t.offsets place (pos 0))

  offset-is : (place : ℕ) → number (initial_count d + place) ≡ offset place
  offset-is place =
      let left : initial_count d + place - initial_count d ≡ place = omega arith in
      offset-at (initial_count d) t.initial t.offsets (initial_count d + place) (omega arith) ∙ rw left

  offsets_are : bytes_below (offset_total d) (λ place. number (initial_count d + place))
      ≡ joined (list_below (offset_total d) (λ place. big_endian entry_bytes (offset place)))
  offsets_are =
      below-congruence (λ place. number (initial_count d + place)) offset (offset_total d) (λ place h. offset-is place)
      ∙ sym (joined-below (offset_total d) offset)

  bytes-are : set_bytes d t.initial t.offsets ≡ file_bytes t
  unfolding set_bytes entry_count file_bytes
  bytes-are =
      below-add number (initial_count d) (offset_total d) ∙ ap₂ (λ (front back : List ℕ). front ++ back) initials-are offsets_are

-- Data records of 16 bytes hold all bytes.
count-covers : (size : ℕ) → size ≤ data_bytes * data_count size
unfolding data_count
count-covers size = omega arith

-- Data record k of bytes, of which the first has address 16n
abbrev data_text : ℕ → List ℕ → ℕ → List ℕ
data_text n bytes k = record_text (head_of (length (data_in bytes k)) (data_bytes * (n + k)) 0) (data_in bytes k)

-- Without its first record's bytes, the records are the others.
module _ (n : ℕ) (bytes : List ℕ) where
  data-later : (k : ℕ) → data_in (drop data_bytes bytes) k ≡ data_in bytes (1 + k)
  unfolding data_in
  data-later k =
      let from : data_bytes + data_bytes * k ≡ data_bytes * (1 + k) = omega arith in
      rw (drop-drop (data_bytes * k) data_bytes bytes, from)

  text-later : (k : ℕ) → data_text n bytes (1 + k) ≡ data_text (n + 1) (drop data_bytes bytes) k
  text-later k =
      let at : n + (1 + k) ≡ n + 1 + k = omega arith in
      rw (data-later k, at)

  one_less : 0 < length bytes → data_count (length bytes) ≡ 1 + data_count (length (drop data_bytes bytes))
  unfolding data_count
  one_less some = omega (arith, length-drop data_bytes bytes)

  first-text : data_text n bytes 0 ≡ record_text (head_of (length (take data_bytes bytes)) (data_bytes * n) 0) (take data_bytes bytes)
  unfolding data_in
  first-text = rw (add-zero n)

  texts-first : 0 < length bytes → list_below (data_count (length bytes)) (data_text n bytes)
      ≡ data_text n bytes 0 ∷ list_below (data_count (length (drop data_bytes bytes))) (data_text (n + 1) (drop data_bytes bytes))
  unfolding list_below
  texts-first some =
      let left = drop data_bytes bytes in
      rw (one_less some, list-add (data_text n bytes) 1 (data_count (length left)))
      (ap (λ (l : List (List ℕ)). data_text n bytes 0 ∷ l)
      (list-congruence (λ k. data_text n bytes (1 + k)) (data_text (n + 1) left) (data_count (length left)) (λ k h. text-later k)))

-- So they are those that the list has, one by one.
data-records : (most n : ℕ) (bytes : List ℕ) → length bytes ≤ most
    → data_records most (data_bytes * n) bytes ≡ list_below (data_count (length bytes)) (data_text n bytes)
unfolding data_records data_count list_below
data-records zero n [] h = refl
data-records zero n (byte ∷ bytes) h = absurd (omega arith)
data-records (suc most) n [] h = refl
data-records (suc most) n (byte ∷ bytes) h =
    let all = byte ∷ bytes in
    let next : data_bytes * n + data_bytes ≡ data_bytes * (n + 1) = omega arith in
    let later = data-records most (n + 1) (drop data_bytes all) (omega (arith, length-drop data_bytes all)) in
    rw next (ap₂ (λ (first : List ℕ) (rest : List (List ℕ)). first ∷ rest) (sym (first-text n all)) later)
    ∙ sym (texts-first n all (omega arith))

module _ (bytes : List ℕ) where
  abbrev count : ℕ
  count = data_count (length bytes)

  data_is : (k : ℕ) → k < count → record_of bytes k ≡ data_text 0 bytes k
  unfolding record_of
  data_is k h = rw (data_head (length bytes) k h, zero-add, data-length bytes k)

  -- The last record is the end record.
  end_is : record_of bytes count ≡ end_record
  unfolding record_of data_in record_text head_of big_endian line_of with_sum sum_byte total hex_of digit_of end_record
  end_is =
      let past : length bytes ≤ data_bytes * count = omega (arith, count-covers (length bytes)) in
      rw (end-head (length bytes) count (le_refl _), drop_of_length-le bytes past)

  records-are : records_of bytes ≡ data_records (length bytes) 0 bytes ++ (end_record ∷ [])
  unfolding records_of record_count list_below
  records-are =
      rw (add-one count, end_is)
      (ap (λ (l : List (List ℕ)). l ++ (end_record ∷ []))
      (list-congruence (record_of bytes) (data_text 0 bytes) count data_is ∙ sym (data-records (length bytes) 0 bytes (le_refl _))))

-- All records
pub in_order : (t : TableSet) → records_in t ≡ record_file t
unfolding set_records record_file
in_order t = rw (bytes-are t) (records-are (file_bytes t))
