-- Document 02, A2: the records of a set as the document lists them. "Write a set's entries, 3 bytes each, big-endian, initial entries
-- first, as data records of 16 bytes from address 0, the last one shorter where fewer are left, then the end record".
use Rattle.std.specs.Prelude.{List, [], ◌∷◌, ◌++◌, ℕ, zero, suc, ◌+◌, length, get_or, take, drop, pos}
use Rattle.general.specs.Below.{list_below}
use Rattle.design.specs.Stored.{initial_count, offset_total}
use Rattle.encoding.specs.Bytes.{big_endian, entry_bytes, complement}
use Rattle.records.specs.IntelHex.{data_bytes, head_of, record_text}
use Rattle.storage.specs.Sets.{TableSet}

-- Lists one behind the other
unfoldable pub joined : List (List ℕ) → List ℕ
joined [] = []
joined (bytes ∷ rest) = bytes ++ joined rest

-- "entries, 3 bytes each, big-endian, initial entries first"; "Offsets are in two's complement"
unfoldable pub file_bytes : TableSet → List ℕ
file_bytes t =
    joined (list_below (initial_count t.design) (λ index. big_endian entry_bytes (get_or t.initial index 0)))
    ++ joined (list_below (offset_total t.design) (λ place. big_endian entry_bytes (complement entry_bytes (get_or t.offsets place (pos 0)))))

-- "data records of 16 bytes .., the last one shorter where fewer are left", from an address on; no more than so many
unfoldable pub data_records : ℕ → ℕ → List ℕ → List (List ℕ)
data_records zero address bytes = []
data_records (suc most) address [] = []
data_records (suc most) address (byte ∷ bytes) =
    let piece = take data_bytes (byte ∷ bytes) in
    record_text (head_of (length piece) address 0) piece ∷ data_records most (address + data_bytes) (drop data_bytes (byte ∷ bytes))

-- ":00000001FF"
unfoldable pub end_record : List ℕ
end_record = 58 ∷ 48 ∷ 48 ∷ 48 ∷ 48 ∷ 48 ∷ 48 ∷ 48 ∷ 49 ∷ 70 ∷ 70 ∷ []

-- "from address 0 .., then the end record"; there are no more records than bytes.
unfoldable pub record_file : TableSet → List (List ℕ)
record_file t = data_records (length (file_bytes t)) 0 (file_bytes t) ++ (end_record ∷ [])
