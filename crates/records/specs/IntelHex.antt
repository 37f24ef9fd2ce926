-- Document 02, A2: bytes as Intel HEX records, "data records of 16 bytes from address 0, the last one shorter where fewer are left, then
-- the end record; one a call, by its number". `total` is how many bytes there are.
use Rattle.std.specs.Prelude.{cond, List, [], ◌∷◌, ◌++◌, ℕ, ◌+◌, ◌-◌, ◌*◌, ◌/◌, min, ltb, length, take, drop}
use Rattle.general.specs.Below.{list_below}
use Rattle.encoding.specs.Bytes.{big_endian}
use Rattle.encoding.specs.Encode.{line_of}

-- "data records of 16 bytes"
abbrev pub data_bytes : ℕ
data_bytes = 16

-- How many data records there are, "the last one shorter where fewer are left", and how many records with the end record
unfoldable pub data_count : ℕ → ℕ
data_count total = (total + 15) / data_bytes

unfoldable pub record_count : ℕ → ℕ
record_count total = data_count total + 1

-- How many bytes the first n records hold
unfoldable pub bytes_before : ℕ → ℕ → ℕ
bytes_before total n = min (data_bytes * n) total

-- and how many record n does: 16, or those that are left. The end record holds none.
unfoldable pub length_at : ℕ → ℕ → ℕ
length_at total n = bytes_before total (n + 1) - bytes_before total n

-- What a record has before its data: length, address (2 bytes, big-endian) and type
unfoldable pub head_of : ℕ → ℕ → ℕ → List ℕ
head_of size address type = size ∷ big_endian 2 address ++ (type ∷ [])

-- Of record n: a data record, type 00, "of 16 bytes from address 0", or the end record, type 01
unfoldable pub record_head : ℕ → ℕ → List ℕ
record_head total n = cond (ltb n (data_count total)) (head_of (length_at total n) (data_bytes * n) 0) (head_of 0 0 1)

-- A record as text: a colon, which is 58, and behind it, as in a line, two digits a byte and a last byte that makes the sum 0 mod 256
unfoldable pub record_text : List ℕ → List ℕ → List ℕ
record_text head bytes = 58 ∷ line_of (head ++ bytes)

-- The bytes that record n holds, record n, and all records in order
unfoldable pub data_in : List ℕ → ℕ → List ℕ
data_in bytes n = take data_bytes (drop (data_bytes * n) bytes)

unfoldable pub record_of : List ℕ → ℕ → List ℕ
record_of bytes n = record_text (record_head (length bytes) n) (data_in bytes n)

unfoldable pub records_of : List ℕ → List (List ℕ)
records_of bytes = list_below (record_count (length bytes)) (record_of bytes)
