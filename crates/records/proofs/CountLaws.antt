-- How many bytes records hold. Everything here is arithmetic of 16 and of the least of two numbers.
use mathlib.Core.Path.{◌≡◌}
use Prim.Native.Nat.{ℕ, ◌+◌, ◌*◌, ◌≤◌, ◌<◌}
use native.Mathlib.Omega.{arith}
use borrow.Author.Tests.{lt-ltb, le-ltb}
use Rattle.records.specs.IntelHex.{data_bytes, data_count, record_count, bytes_before, length_at, head_of, record_head}

-- No records hold no bytes, and all of them hold all bytes.
module _ (total : ℕ) where
  pub before-none : bytes_before total 0 ≡ 0
  unfolding bytes_before
  before-none = omega arith

  pub before-all : bytes_before total (record_count total) ≡ total
  unfolding record_count data_count bytes_before
  before-all = omega arith

module _ (total n : ℕ) where
  -- A record holds no more than 16 bytes, and the records before it no more than all.
  pub length-small : length_at total n ≤ data_bytes
  unfolding length_at bytes_before
  length-small = omega arith

  pub before_small : bytes_before total n ≤ total
  unfolding bytes_before
  before_small = omega arith

  -- The records up to n hold those before it and its own.
  pub before-next : bytes_before total (n + 1) ≡ bytes_before total n + length_at total n
  unfolding length_at bytes_before
  before-next = omega arith

  -- A data record holds some bytes, and those before it 16 each;
  pub data-some : n < data_count total → 0 < length_at total n
  unfolding data_count length_at bytes_before
  data-some h = omega arith

  pub data-start : n < data_count total → bytes_before total n ≡ data_bytes * n
  unfolding data_count bytes_before
  data-start h = omega arith

  -- the end record holds none, and those before it hold all.
  pub end_none : data_count total ≤ n → length_at total n ≡ 0
  unfolding data_count length_at bytes_before
  end_none h = omega arith

  pub end-start : data_count total ≤ n → bytes_before total n ≡ total
  unfolding data_count bytes_before
  end-start h = omega arith

  -- So a record that holds some bytes is a data record, and one that holds none the end record.
  pub some-data : 0 < length_at total n → n < data_count total
  unfolding data_count length_at bytes_before
  some-data h = omega arith

  pub none_end : length_at total n ≡ 0 → data_count total ≤ n
  unfolding data_count length_at bytes_before
  none_end h = omega arith

  -- What the two kinds of records begin with
  pub data_head : n < data_count total → record_head total n ≡ head_of (length_at total n) (data_bytes * n) 0
  unfolding record_head
  data_head h = rw (lt-ltb _ _ h)

  pub end-head : data_count total ≤ n → record_head total n ≡ head_of 0 0 1
  unfolding record_head
  end-head h = rw (le-ltb _ _ h)
