-- The bytes of a record with those held right before its data, and the bytes that a record leaves of an entry.
use mathlib.Core.Path.{◌≡◌, ap}
use mathlib.Core.List.{List, [], ◌∷◌, ◌++◌}
use Prim.Native.Nat.{ℕ, ◌+◌, ◌-◌, ◌≤◌, ◌<◌}
use native.Mathlib.Omega.{arith}
use lib.ListN.{length, take, drop, length-drop, length-append}
use lib.Seq.{length-take-le, take-append-add}
use Rattle.records.specs.IntelHex.{length_at}
use Rattle.record_reading.specs.declared.HexReading.{HexReading}
use Rattle.record_reading.specs.ReadRecord.{held_count, data_of, stream}

-- They are as many bytes as before.
pub window-length : (state : HexReading) (k : ℕ) (bytes window : List ℕ) → k ≤ 2 → 4 < length bytes
    → drop (4 - k) window ≡ take k (state.first ∷ state.second ∷ []) ++ drop 4 bytes → length window ≡ length bytes
window-length state k bytes window few long e =
    let held = take k (state.first ∷ state.second ∷ []) in
    omega (
      arith,
      ap length e,
      length-drop (4 - k) window,
      length-append held (drop 4 bytes),
      length-take-le k (state.first ∷ state.second ∷ []) few,
      length-drop 4 bytes,
    )

-- So many bytes of them are the stream that the record brings.
pub window-stream : (total : ℕ) (state : HexReading) (bytes window : List ℕ) (k n : ℕ) → k ≡ held_count total state.taken → k ≤ 2
    → n ≡ length_at total state.taken
    → drop (4 - k) window ≡ take k (state.first ∷ state.second ∷ []) ++ drop 4 bytes
    → take (4 + n - (4 - k)) (drop (4 - k) window) ≡ stream total state bytes
unfolding stream data_of
window-stream total state bytes window k n held-is few data_is e =
    let size : 4 + n - (4 - k) ≡ k + n = omega arith in
    let held = take k (state.first ∷ state.second ∷ []) in
    let full : length held ≡ k = length-take-le k (state.first ∷ state.second ∷ []) few in
    rw (size, e, ← held-is, ← data_is) (rw full at (take-append-add held (drop 4 bytes) n))
