-- Records that hold bytes one behind the other: they are got back from the bytes.
use mathlib.Core.Path.{◌≡◌, refl, sym, ap, ◌∙◌}
use mathlib.Core.List.{List, [], ◌∷◌, ◌++◌, append-nil}
use Prim.Native.Nat.{ℕ, ◌+◌, ◌*◌, ◌≤◌, ◌<◌}
use native.Mathlib.Decide.{dec_lt}
use native.Mathlib.Numerals.{add-one}
use native.Mathlib.Omega.{arith}
use lib.ListN.{length, take, drop, length-drop, drop_of_length-le}
use lib.Seq.{take_all, take-append-le, drop-append-le, drop_at}
use Rattle.general.specs.Below.{list_below}
use Rattle.general.proofs.ListLaws.{list-congruence}
use Rattle.records.specs.IntelHex.{data_bytes, data_count, bytes_before, record_head, record_text, data_in}
use Rattle.records.proofs.CountLaws.{length-small, data-start, end_none, end-start}
use Rattle.record_storage.proofs.Taking.{PieceOf}

-- Record k of so many bytes, of which these are the first
abbrev pub text_of : ℕ → List ℕ → ℕ → List ℕ
text_of total bytes k = record_text (record_head total k) (data_in bytes k)

-- A list of length 0 has nothing in it.
none_left : (l : List ℕ) → length l ≡ 0 → l ≡ []
none_left [] e = refl
none_left (a ∷ l) e = absurd (omega arith)

-- Behind the bytes that n records hold come those of one record more.
module _ (total n : ℕ) (bytes piece : List ℕ) (size : length bytes ≡ bytes_before total n) (fits : PieceOf total n piece) where
  -- where it is a data record
  module _ (within : n < data_count total) where
    start : length bytes ≡ data_bytes * n
    start = size ∙ data-start total n within

    data-last : data_in (bytes ++ piece) n ≡ piece
    unfolding data_in
    data-last =
        rw (drop_at bytes piece (data_bytes * n) start)
        (take_all data_bytes piece (omega (arith, fits.size, length-small total n)))

    data-stands : (k : ℕ) → k < n → data_in bytes k ≡ data_in (bytes ++ piece) k
    unfolding data_in
    data-stands k h =
        let from = data_bytes * k in
        sym (
        ap (take data_bytes) (drop-append-le from bytes piece (omega (arith, start)))
        ∙ take-append-le data_bytes (drop from bytes) piece (omega (arith, start, length-drop from bytes)))

  -- and where it is the end record
  module _ (last : data_count total ≤ n) where
    no-piece : piece ≡ []
    no-piece = none_left piece (fits.size ∙ end_none total n last)

    all_there : bytes ++ piece ≡ bytes
    all_there = rw no-piece (append-nil bytes)

    end-last : data_in bytes n ≡ []
    unfolding data_in data_count
    end-last = rw (drop_of_length-le bytes {i = data_bytes * n} (omega (arith, size, end-start total n last)))

  -- The record's data are those bytes,
  pub piece-last : data_in (bytes ++ piece) n ≡ piece
  piece-last =
      elim (dec_lt n (data_count total)) [
        | yes within ↦ data-last within
        | no past ↦
            let last : data_count total ≤ n = omega arith in
            rw (all_there last) (end-last last ∙ sym (no-piece last))
      ]

  -- and those of the records before it stand.
  pub piece-stands : (k : ℕ) → k < n → data_in bytes k ≡ data_in (bytes ++ piece) k
  piece-stands k h =
      elim (dec_lt n (data_count total)) [
        | yes within ↦ data-stands within k h
        | no past ↦ let last : data_count total ≤ n = omega arith in rw (all_there last)
      ]

  -- So the texts of n + 1 records are those of the n records and the last one's.
  pub texts-more : list_below (n + 1) (text_of total (bytes ++ piece))
      ≡ list_below n (text_of total bytes) ++ (record_text (record_head total n) piece ∷ [])
  unfolding list_below
  texts-more =
      rw (add-one, piece-last)
      (ap (λ (l : List (List ℕ)). l ++ (record_text (record_head total n) piece ∷ []))
      (list-congruence (text_of total (bytes ++ piece)) (text_of total bytes) n
      (λ k h. ap (record_text (record_head total k)) (sym (piece-stands k h)))))
