-- A record's bytes, of which an array holds the first with zeros behind them: it is due as the bytes are, and brings the same.
use Rattle.std.specs.Prelude.{Ok, Err}
use mathlib.Core.Path.{◌≡◌, refl, ◌∙◌}
use mathlib.Core.Bool.{Bool, not}
use mathlib.Core.List.{List, [], ◌∷◌}
use Prim.Native.Nat.{ℕ, ◌+◌, ◌-◌, ◌*◌, ◌≤◌}
use native.Mathlib.Omega.{arith}
use lib.Dec.{leb, eqb}
use lib.ListN.{length, take, drop, replicate, length-take, length-drop}
use lib.Seq.{take_all, take-take, take-append-le, drop-append-le}
use borrow.Author.Tests.{eqb-true, not-false}
use Rattle.general.proofs.Tests.{neither}
use Rattle.refusal.specs.declared.Cause.{Cause}
use Rattle.refusal.specs.Verdict.{Verdict}
use Rattle.refusal.specs.Checks.{if_passed}
use Rattle.refusal.proofs.Checks.{none-fails}
use Rattle.frames.specs.Line.{capacity, padded}
use Rattle.encoding.specs.Bytes.{entry_bytes}
use Rattle.reading.specs.ReadLine.{begins, head_fails}
use Rattle.reading.proofs.BeginsLaws.{begins-front}
use Rattle.records.specs.declared.Extent.{Extent}
use Rattle.records.specs.IntelHex.{record_count, length_at, record_head}
use Rattle.records.specs.Record.{other_bytes}
use Rattle.records.proofs.CountLaws.{length-small}
use Rattle.records.proofs.BytesLaws.{head-length}
use Rattle.record_reading.specs.declared.HexReading.{HexReading}
use Rattle.record_reading.specs.ReadRecord.{record_due_check, HexSession, data_of, stream, hex_moved}
use Rattle.record_reading.specs.Inputs.{due_verdict, after_record}

module _ (full : List ℕ) where
  abbrev pub array_of : List ℕ
  array_of = padded (take capacity full)

  -- The first bytes are the same,
  front_same : (n : ℕ) → n ≤ capacity → n ≤ length full → take n array_of ≡ take n full
  unfolding padded
  front_same n short within =
      let held = take capacity full in
      take-append-le n held (replicate (capacity - length held) 0) (omega (arith, length-take capacity full))
      ∙ take-take n capacity full short

  -- and so are those behind the head.
  data-same : (n : ℕ) → length full ≤ capacity → 4 + n ≤ length full → take n (drop 4 array_of) ≡ take n (drop 4 full)
  unfolding padded
  data-same n short within =
      let zeros : List ℕ = replicate (capacity - length full) 0 in
      rw (take_all capacity full short, drop-append-le 4 full zeros (omega arith))
      (take-append-le n (drop 4 full) zeros (omega (arith, length-drop 4 full)))

-- A record with the bytes beside its data, in a state
module _ (total : ℕ) (state : HexReading) (full : List ℕ) (long : other_bytes ≤ length full) where
  abbrev heads-with : List ℕ → Bool
  heads-with bytes = head_fails (record_head total state.taken) (length_at total state.taken) bytes (length full)

  head-same : heads-with (array_of full) ≡ heads-with full
  unfolding head_fails
  head-same =
      let head = record_head total state.taken in
      let short : length head ≤ 4 = omega (arith, head-length total state.taken) in
      rw (← begins-front (array_of full) head 4 short, front_same full 4 (omega arith) (omega arith), begins-front full head 4 short)

  -- It is due in the array where it is due.
  pub due-same : due_verdict total state (array_of full) (length full) ≡ due_verdict total state full (length full)
  unfolding due_verdict record_due_check
  due-same = rw head-same

  -- One that is due has as many bytes as an array holds, or fewer.
  due-length : due_verdict total state full (length full) ≡ Ok tt → length full ≡ 4 + length_at total state.taken + 1
  unfolding due_verdict record_due_check head_fails
  due-length e =
      let n = state.taken in
      let due = length (record_head total n) + length_at total n + 1 in
      let tried = none-fails (record_due_check total state full (length full) ∷ []) e in
      let head = (neither (leb (record_count total) n) (heads-with full) tried.0).1 in
      let right = (neither (not (eqb (length full) due)) (not (begins full (record_head total n))) head).0 in
      omega (arith, eqb-true (length full) due (not-false _ right), head-length total n)

  stream-same : due_verdict total state full (length full) ≡ Ok tt → stream total state (array_of full) ≡ stream total state full
  unfolding stream data_of
  stream-same e =
      let n = length_at total state.taken in
      let size = due-length e in
      rw (data-same full n (omega (arith, length-small total state.taken)) (omega arith))

-- What a verdict leads to depends on the answer only where it passes.
if-passed-same : {A : Type 0} (v : Verdict) (first second : A) (refusal : Cause → A) → (v ≡ Ok tt → first ≡ second)
    → if_passed v first refusal ≡ if_passed v second refusal
if-passed-same (Ok tt) first second refusal same = same refl
if-passed-same (Err cause) first second refusal same = refl

module _ (initials total : ℕ) (s : HexSession) (full : List ℕ) (long : other_bytes ≤ length full) where
  -- What it brings is the same,
  pub moved_same : due_verdict total s.state full (length full) ≡ Ok tt
      → hex_moved initials total s (array_of full) ≡ hex_moved initials total s full
  moved_same e = rw (stream-same total s.state full long e)

-- and so is the reading after it.
pub after_same : (extent : Extent) (s : HexSession) (full : List ℕ) → other_bytes ≤ length full
    → after_record extent s (array_of full) (length full) ≡ after_record extent s full (length full)
unfolding after_record
after_same extent s full long =
    let total = entry_bytes * extent.entries in
    rw (due-same total s.state full long)
    (if-passed-same (due_verdict total s.state full (length full)) _ _ (λ cause. s) (moved_same extent.initials total s full long))
